-- Lenient rules and values that are refused, as C sees them.
use Rattle.std.specs.Prelude.{◌≡◌, ℕ, ◌==◌, List, codes, map, Option, Some, None, if◌then◌else◌}
use Rattle.x509_elements.specs.Uses.{Use, leniencies}
use Rattle.x509_elements.specs.declared.leniency.Leniency.{Leniency}
use Rattle.x509_elements.specs.declared.leniency.Leniency.TheVariants.{BytesBehind, WrapperByNumber, AnySerial, BasicTruth, UnreadableField, AttributeByNumbers, ChoiceByNumber, UnreadableName, TimestampsBehind, Inside}
use Rattle.x509_elements.specs.declared.part.Part.{Part}
use Rattle.x509_elements.specs.declared.refused.refused_value.RefusedValue.{RefusedValue}
use Rattle.x509_elements.specs.RefusedValues.{refused_values}
use Rattle.x509_c.specs.Rows.{AreTold}
use Rattle.x509_c.specs.Status.{status_of}
use Rattle.x509_c.specs.declared.findings.LenientUseRow.{LenientUseRow}
use Rattle.x509_c.specs.declared.findings.RefusedValueRow.{RefusedValueRow}

-- ---- what is found in an object, by its kind: all of it is counted, and shown as far as there are rows; 50 where there is no such kind

abbrev pub ToldOfKind : {R X : Type 0} → (R → X → Type 0) → (Part → List X) → Option Part → List R → ℕ → List R → ℕ → ℕ → Type 0
ToldOfKind Shows found (Some part) rows told new_rows new_told status = AreTold Shows (found part) rows told new_rows new_told status
ToldOfKind Shows found None rows told new_rows new_told status = (status ≡ 50) × (new_rows ≡ rows) × (new_told ≡ told)

-- ---- lenient rules

abbrev pub rule_number : Leniency → ℕ
rule_number BytesBehind = 1
rule_number WrapperByNumber = 2
rule_number AnySerial = 3
rule_number BasicTruth = 4
rule_number UnreadableField = 5
rule_number AttributeByNumbers = 6
rule_number ChoiceByNumber = 7
rule_number UnreadableName = 8
rule_number TimestampsBehind = 9
rule_number Inside = 10

-- a rule's number, and how many octets of the object stand before the place at which it is used
abbrev pub use_of : Use → ℕ × ℕ
use_of u = (rule_number u.rule, u.at)

abbrev pub uses_in : List ℕ → Part → List (ℕ × ℕ)
uses_in octets part = map use_of (leniencies part octets)

pub record IsUseRow (row : LenientUseRow) (used : ℕ × ℕ) : Type 0 where
  pub rule : row.rule ≡ used.0
  pub at : row.at ≡ used.1

-- the name of a rule in reports, by its number
abbrev pub rule_word : ℕ → List ℕ
rule_word number =
    if number == 1 then codes "bytes_behind" else
    if number == 2 then codes "wrapper_by_number" else
    if number == 3 then codes "any_serial" else
    if number == 4 then codes "basic_truth" else
    if number == 5 then codes "unreadable_field" else
    if number == 6 then codes "attribute_by_numbers" else
    if number == 7 then codes "choice_by_number" else
    if number == 8 then codes "unreadable_name" else
    if number == 9 then codes "timestamps_behind" else
    if number == 10 then codes "inside" else codes "unknown"

-- ---- refused values

-- why a value is refused, by its number, and how many octets of the object stand before that octet
pub record Refusal : Type 0 where
  pub status : ℕ
  pub at : ℕ
  -- where the value lies in the object
  pub value_at : ℕ
  pub value_size : ℕ

abbrev pub refusal_of : RefusedValue → Refusal
refusal_of v = record { status = status_of v.why; at = v.at; value_at = v.value_at; value_size = v.value_size }

abbrev pub refusals_in : List ℕ → Part → List Refusal
refusals_in octets part = map refusal_of (refused_values part octets)

pub record IsRefusedValueRow (row : RefusedValueRow) (refusal : Refusal) : Type 0 where
  pub status : row.status ≡ refusal.status
  pub at : row.at ≡ refusal.at
  pub value_at : row.value_at ≡ refusal.value_at
  pub value_length : row.value_length ≡ refusal.value_size
