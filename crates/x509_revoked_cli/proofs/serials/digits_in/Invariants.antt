use Rattle.std.proofs.Common.{◌≡◌, ◌==◌, not, filter, take}
use Rattle.x509_revoked_cli.proofs.serials.digits_in.Given as goal

-- those so far, without the colons
abbrev pub invariant-loop-octet : goal.invariant-loop-octet
invariant-loop-octet l = l.digits.items ≡ filter (λ octet. not (octet == 0x3a)) (take l.octet-index l.word)
