-- Why a strict reader refuses an object, and where: at the first octet at which it uses a lenient rule, with that rule, or where no reader
-- takes it, without one.
use Rattle.std.specs.Prelude.{◌≡◌, ℕ, ◌+◌, true, false, List, [], ◌∷◌, length, Option, Some, None, Result, Ok, Err, IfErr}
use Rattle.x509_der.specs.declared.error.Err.{Err as Refusal}
use Rattle.x509_der.specs.declared.error.Err.TheVariants.{Error}
use Rattle.x509_der.specs.declared.error.Located.{Located}
use Rattle.x509_der.specs.Plan.{plain_only}
use Rattle.x509_der.specs.Promises.{ReadsExactly, is_excused}
use Rattle.x509_fields.specs.declared.error.X509Error.{X509Error}
use Rattle.x509_fields.specs.declared.error.X509Error.TheVariants.{Generic}
use Rattle.x509_fields.specs.Errors.{is_x509_memory}
use Rattle.x509_fields.specs.Fields.{Field}
use Rattle.x509_elements.specs.declared.part.Part.{Part}
use Rattle.x509_elements.specs.declared.strict.StrictRefusal.{StrictRefusal}
use Rattle.x509_elements.specs.Uses.{Use, leniencies}

-- the first of the rules that an object uses
abbrev pub first_use : List Use → Option Use
first_use [] = None
first_use (u ∷ us) = Some u

-- a refusal, at the first rule that the object uses, where it uses one
abbrev pub placed_by : Located X509Error → Option Use → StrictRefusal
placed_by refused None = record { why = refused.why; at = refused.at; rule = None }
placed_by refused (Some u) = record { why = refused.why; at = u.at; rule = Some u.rule }

-- It is a generic error at the first rule, with that rule; where none is used, the grammar's own, at the place at which it refuses the octets.
abbrev pub StandsBy : {A : Type 0} → Field A → List ℕ → Option Use → StrictRefusal → Type 0
StandsBy p octets None e = (e.rule ≡ None) × ((left : ℕ) × p.Refuses octets e.why left × (e.at + left ≡ length octets))
StandsBy p octets (Some u) e = (e.rule ≡ Some u.rule) × (e.why ≡ Error Generic) × (e.at ≡ u.at)

-- a refusal without its place
abbrev pub why_alone : {X : Type 0} → Result X StrictRefusal → Result X (Refusal X509Error)
why_alone (Ok x) = Ok x
why_alone (Err e) = Err e.why

-- Read exactly where the object stands plainly, with its value and the rest; refused as a strict reader refuses it, at its place. Want of
-- memory has no rule.
pub record ReadsPlainly {A X : Type 0} (view : X → List ℕ × A) (p : Field A) (object : Part) (octets : List ℕ) (result : Result X StrictRefusal) : Type 0 where
  pub exact : ReadsExactly is_x509_memory true view (plain_only (Error Generic) p) octets (why_alone result)
  pub placed : IfErr result (λ e. is_excused is_x509_memory true e.why ≡ false → StandsBy p octets (first_use (leniencies object octets)) e)
  pub memory : IfErr result (λ e. is_excused is_x509_memory true e.why ≡ true → e.rule ≡ None)
