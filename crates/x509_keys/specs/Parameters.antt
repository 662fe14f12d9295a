-- Parameters of algorithms whose fields stand in explicit context tags, each with a default (RFC 4055, 3.1 and 4.1).
use Rattle.std.specs.Prelude.{◌≡◌, ℕ, ◌==◌, true, false, List, Option, Result, Ok, Err, IfOk, IfErr, ◌⊎◌, if◌then◌else◌}
use Rattle.x509_der.specs.declared.error.BerError.TheVariants as ber
use Rattle.x509_der.specs.declared.error.Err.{Err as Refusal}
use Rattle.x509_der.specs.Laws.{IsElement, IsField}
use Rattle.x509_der.specs.Leaves.{any, explicit, u32}
use Rattle.x509_der.specs.Plan.{Outcome, container, hard}
use Rattle.x509_der.specs.Primitives.{is_implicit}
use Rattle.x509_der.specs.Reading.{Element, Gives}
use Rattle.x509_der.proofs.Rulesets.{laws}
use Rattle.x509_fields.specs.declared.error.X509Error.{X509Error}
use Rattle.x509_fields.specs.declared.error.X509Error.TheVariants as x509
use Rattle.x509_fields.specs.Algorithm.{Algorithm, algorithm, algorithm_laws}
use Rattle.x509_fields.specs.Errors.{is_x509_memory, x509_of_refusal}
use Rattle.x509_fields.specs.Fields.{Field, lifted, as_x509_renames}

-- ---- fields

-- [n] EXPLICIT, absent where nothing is left, or where an element of another class or number stands, which is read whole before this
-- look; bytes behind the value in the tag are skipped
abbrev pub tagged : {A : Type 0} → ℕ → Field A → Field (Option A)
tagged n value = hard (lifted any) (λ e. is_implicit n e.header) (container (lifted (explicit n)) value)

unfoldable pub tagged_algorithm : ℕ → Field (Option Algorithm)
tagged_algorithm n = tagged n algorithm

unfoldable pub tagged_u32 : ℕ → Field (Option ℕ)
tagged_u32 n = tagged n (lifted u32)

-- ---- an element of parameters

-- the number of a SEQUENCE; the class and the constructed bit are free
abbrev pub sequence_number : ℕ
sequence_number = 16

-- the contents begin with these fields; bytes behind them are skipped
abbrev pub HoldsFields : {A : Type 0} → Field A → ℕ → List ℕ → A → Type 0
HoldsFields fields number contents a = (number == sequence_number ≡ true) × (tail : List ℕ) × fields.Is contents a tail

-- another number, or the refusal of the first field that has no value
abbrev pub RefusesFields : {A : Type 0} → Field A → ℕ → List ℕ → X509Error → Type 0
RefusesFields fields number contents why =
    ((number == sequence_number ≡ false) × (x509.Der ber.InvalidTag ≡ why))
    ⊎ ((number == sequence_number ≡ true) × (r : Refusal X509Error) × (left : ℕ) × fields.Refuses contents r left × (x509_of_refusal (λ held. held) r ≡ why))

-- the value of what was read, or the error that its refusal holds
abbrev pub value_or_error : {A : Type 0} → Outcome (Refusal X509Error) A → Result A X509Error
value_or_error (Ok x) = Ok x.1
value_or_error (Err r) = Err (x509_of_refusal (λ held. held) r)

-- the fields as they are read
abbrev pub fields_of : {A : Type 0} → Field A → ℕ → List ℕ → Result A X509Error
fields_of fields number contents = if number == sequence_number then value_or_error (fields.read contents) else Err (x509.Der ber.InvalidTag)

-- The fields that an element with this number and these contents holds, and exactly the refusal where it holds none.
pub record ReadsFields {A X : Type 0} (view : X → A) (fields : Field A) (number : ℕ) (contents : List ℕ) (result : Result X X509Error) : Type 0 where
  pub holds : IfOk result (λ x. HoldsFields fields number contents (view x))
  pub every : (a : A) → HoldsFields fields number contents a → Gives view result (Ok a)
  pub refused : IfErr result (λ why. RefusesFields fields number contents why)
  pub refuses : (why : X509Error) → RefusesFields fields number contents why → Gives view result (Err why)

-- the same of a whole element
abbrev pub parameters : {A : Type 0} → Field A → Element → Result A X509Error
parameters fields e = fields_of fields e.header.tag.0 e.contents

abbrev pub ReadsParameters : {A X : Type 0} → (X → A) → Field A → Element → Result X X509Error → Type 0
ReadsParameters view fields e result = ReadsFields view fields e.header.tag.0 e.contents result

-- ---- laws

algorithm_element : IsElement is_x509_memory algorithm
algorithm_element = algorithm_laws.laws

pub tagged_algorithm_laws : (n : ℕ) → IsField is_x509_memory (tagged_algorithm n)
unfolding tagged_algorithm
tagged_algorithm_laws n = search (laws, as_x509_renames, algorithm_element) depth 40

pub tagged_u32_laws : (n : ℕ) → IsField is_x509_memory (tagged_u32 n)
unfolding tagged_u32
tagged_u32_laws n = search (laws, as_x509_renames) depth 40
