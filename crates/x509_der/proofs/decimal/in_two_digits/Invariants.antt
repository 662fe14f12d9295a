use Rattle.std.proofs.Common.{◌≡◌, ◌+◌, ◌*◌, ◌^◌, ◌<◌, take}
use Rattle.std.specs.Int.Digits.{number_from_digits}
use Rattle.x509_der.proofs.decimal.in_two_digits.Given as goal

-- the number of the octets so far
abbrev pub invariant-loop-octet : goal.invariant-loop-octet
invariant-loop-octet l = record {
  value : l.high * 10 ^ 36 + l.low ≡ number_from_digits 256 (take l.octet-index l.octets);
  low : l.low < 10 ^ 36;
}
