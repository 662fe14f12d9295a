-- What a report says of the lenient rules that an object uses (docs/GRAMMAR.md).
use Rattle.std.specs.Prelude.{ℕ, Bool, List, [], ◌∷◌, codes, take, Option, if◌then◌else◌}
use Rattle.json.specs.Json.{Json, string}
use Rattle.x509_elements.specs.Uses.{Use, leniencies}
use Rattle.x509_elements.specs.Words.{leniency_word}
use Rattle.x509_elements.specs.declared.part.Part.{Part}
use Rattle.x509_report_lines.specs.Says.{count, list_of, optional, record_of}
use Rattle.x509_report_objects.specs.RefusedValues.{path_in}

-- a rule, the octet of the object at which it is used, and the path of fields that leads there
abbrev pub use_report : Option (List ℕ) → Use → Json
use_report path u = record_of (
    (codes "rule", string (leniency_word u.rule)) ∷
    (codes "at", count u.at) ∷
    (codes "path", optional (λ s. string s) path) ∷ [])

abbrev pub use_with_path : Part → List ℕ → Use → Json
use_with_path part octets u = use_report (path_in part octets u.at) u

-- the first hundred: the path of each is looked for from the front of the object on
abbrev pub first_uses : Part → List ℕ → List Use → Json
first_uses part octets us = list_of (use_with_path part octets) (take 100 us)

-- what stands plainly uses none
abbrev pub uses_unless : Bool → Part → List ℕ → List Use
uses_unless plain part octets = if plain then [] else leniencies part octets

abbrev pub lenient_members : Bool → Part → List ℕ → List (List ℕ × Json)
lenient_members plain part octets = (codes "leniencies", first_uses part octets (uses_unless plain part octets)) ∷ []
