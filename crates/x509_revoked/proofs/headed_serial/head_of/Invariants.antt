use Rattle.std.proofs.Common.{◌≡◌, ◌<◌, ◌^◌, take}
use Rattle.std.specs.Int.Digits.{number_from_digits}
use Rattle.x509_revoked.proofs.headed_serial.head_of.Given as goal

-- the octets so far
abbrev pub invariant-loop-octet : goal.invariant-loop-octet
invariant-loop-octet l = record {
  number : l.first ≡ number_from_digits 256 (take l.octet-index l.octet-items);
  fits : l.first < 256 ^ l.octet-index;
}
