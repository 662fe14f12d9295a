use Rattle.std.proofs.Common.{◌≡◌, length, is_some}
use Rattle.x509_names.specs.NameTexts.{utf16_text}
use Rattle.x509_names.proofs.value_text.is_utf16.Given as goal

abbrev pub invariant-chars : goal.invariant-chars
invariant-chars l = is_some (utf16_text l.rest) ≡ is_some (utf16_text l.octets)

abbrev pub decreases-chars : goal.decreases-chars
decreases-chars l = length l.rest
