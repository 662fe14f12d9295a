use Rattle.std.proofs.Common.{◌≡◌, ◌<◌, ◌^◌, take}
use Rattle.std.specs.Int.Digits.{number_from_digits}
use Rattle.x509_keys.proofs.rsa_public_key.number_of.Given as goal

abbrev pub invariant-loop-octet : goal.invariant-loop-octet
invariant-loop-octet l = record {
  value : l.number ≡ number_from_digits 256 (take l.octet-index l.octets);
  small : l.number < 256 ^ l.octet-index;
}
