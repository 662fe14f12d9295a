use Rattle.std.proofs.Common.{◌≡◌, ℕ, List, ◌++◌, drop}
use Rattle.std.specs.Fmt.{HasWritten, IsPlainFormatter}
use Rattle.hex.specs.Hex.{encode_upper}
use Rattle.x509_names.proofs.value_text.write_upper_hex.Given as goal

-- what is written so far, and the digits of the octets that are left, make the whole
abbrev pub invariant-loop-octet : goal.invariant-loop-octet
invariant-loop-octet g l =
    IsPlainFormatter l.fn.f
    → (done : List ℕ) × HasWritten g.W.Write.write_str_gives l.fn.f done l.f × (done ++ encode_upper (drop l.octet-index l.octets) ≡ encode_upper l.octets)
