use Rattle.std.proofs.Common.{◌≡◌, ℕ, List, ◌++◌, length, Some}
use Rattle.std.specs.Fmt.{HasWritten, IsPlainFormatter}
use Rattle.std.specs.Option.{option_map}
use Rattle.x509_names.specs.NameTexts.{utf16_text}
use Rattle.x509_names.proofs.value_text.write_utf16.Given as goal

-- what is written so far, and the text of the octets that are left, make the whole
abbrev pub invariant-chars : goal.invariant-chars
invariant-chars g l =
    (whole : List ℕ) → utf16_text l.octets ≡ Some whole → IsPlainFormatter l.fn.f
    → (done : List ℕ) × HasWritten g.W.Write.write_str_gives l.fn.f done l.f × (option_map (λ text. done ++ text) (utf16_text l.rest) ≡ Some whole)

abbrev pub decreases-chars : goal.decreases-chars
decreases-chars g l = length l.rest
