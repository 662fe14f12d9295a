-- The comment of a certificate (Netscape certificate extensions):
--
--     IA5String
--
-- Some issuers wrote the text itself as the value.
use Rattle.std.specs.Prelude.{◌≡◌, ℕ, true, false, List, [], ◌⊎◌, Ok, Err, if◌then◌else◌}
use Rattle.std.specs.Str.{is_utf8}
use Rattle.x509_der.specs.Leaves.{ia5}
use Rattle.x509_der.specs.Plan.{Outcome, Plan, got, then_marks, Nothing}
use Rattle.x509_fields.specs.Fields.{Field, lifted}

-- ---- the grammar

-- all the bytes of a place are a text, and this plan has none there
abbrev pub IsWholeText : {F : Type 0} → Plan F (List ℕ) → List ℕ → List ℕ → List ℕ → Type 0
IsWholeText p place text next = Nothing p place × (is_utf8 place ≡ true) × (place ≡ text) × ([] ≡ next)

abbrev pub whole_text : {F : Type 0} → List ℕ → Outcome F (List ℕ) → Outcome F (List ℕ)
whole_text place (Ok x) = Ok x
whole_text place (Err r) = if is_utf8 place then got place [] else Err r

-- a text; where it can't be read, all the bytes of the place, if they are UTF-8; if not, they are refused as the text is
abbrev pub or_whole_text : {F : Type 0} → Plan F (List ℕ) → Plan F (List ℕ)
or_whole_text p = record {
  Is = λ place text next. p.Is place text next ⊎ IsWholeText p place text next;
  Plain = λ place text next. p.Plain place text next ⊎ IsWholeText p place text next;
  Refuses = λ place r left. p.Refuses place r left × (is_utf8 place ≡ false);
  read = λ place. whole_text place (p.read place);
  marks = λ place. then_marks (p.read place) (λ text next. p.marks place);
  stop = λ more. p.stop more;
}

unfoldable pub ns_comment : Field (List ℕ)
ns_comment = or_whole_text (lifted ia5)
