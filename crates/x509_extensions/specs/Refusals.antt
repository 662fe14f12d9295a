-- Where the value of an extension is refused, and why.
use Rattle.std.specs.Prelude.{◌≡◌, ◌+◌, ◌-◌, ℕ, List, length, cond, true, false, Option, Some, None, IfSome, Ok, Err}
use Rattle.x509_der.specs.declared.error.Err.{Err as Refusal}
use Rattle.x509_der.specs.declared.error.Located.{Located}
use Rattle.x509_der.specs.Plan.{Outcome, added}
use Rattle.x509_der.specs.Promises.{is_excused, refusal_by}
use Rattle.x509_fields.specs.declared.error.X509Error.{X509Error}
use Rattle.x509_fields.specs.Errors.{is_x509_memory}
use Rattle.x509_fields.specs.Fields.{Field}
use Rattle.x509_extensions.specs.Kinds.{kind_of}
use Rattle.x509_extensions.specs.Parsed.{Parsed, Failed, ber_in, error_in, row}
use Rattle.x509_extensions.specs.declared.kind.Kind.{Kind}

-- this, unless memory ran out
abbrev pub OrMemory : Located X509Error → Type 0 → Type 0
OrMemory e P = cond (is_excused is_x509_memory true e.why) (Unit {0}) P

-- ---- by the grammar

-- the refusal with this reason, so many octets before the end of the value
abbrev pub IsAt : List ℕ → Refusal X509Error → ℕ → Located X509Error → Type 0
IsAt value why left e = (e.why ≡ why) × (e.at + left ≡ length value)

abbrev pub IsTold : List ℕ → Refusal X509Error → ℕ → Option (Located X509Error) → Type 0
IsTold value why left None = ⊥
IsTold value why left (Some e) = OrMemory e (IsAt value why left e)

-- What is told of a value is a refusal of its grammar, with its place; and each refusal of the grammar is told. So nothing is told only
-- where the grammar refuses nothing.
pub record TellsRefusal {A : Type 0} (plan : Field A) (value : List ℕ) (told : Option (Located X509Error)) : Type 0 where
  pub located : IfSome told (λ e. is_excused is_x509_memory true e.why ≡ false → (why : Refusal X509Error) × (left : ℕ) × plan.Refuses value why left × IsAt value why left e)
  pub locates : (why : Refusal X509Error) (left : ℕ) → plan.Refuses value why left → IsTold value why left told

-- Of an extension's value, by the grammar of its kind; where no reader is known, nothing.
abbrev pub IsValueRefusal : Option Kind → List ℕ → Option (Located X509Error) → Type 0
IsValueRefusal None value told = told ≡ None
IsValueRefusal (Some kind) value told = TellsRefusal (row kind) value told

-- ---- as a function of the octets

-- a reading's refusal, at an octet
abbrev pub refusal_at : {A : Type 0} → Outcome (Refusal X509Error) A → ℕ → Option (Located X509Error)
refusal_at (Ok x) at = None
refusal_at (Err why) at = Some (record { why = why; at = at })

abbrev pub refusal_by_kind : Option Kind → List ℕ → Option (Located X509Error)
refusal_by_kind None value = None
refusal_by_kind (Some kind) value = refusal_at ((row kind).read value) (length value - (row kind).stop added value 0)

-- Why the value of an extension with this identifier is refused, and how many of its octets stand before the place.
unfoldable pub value_refusal : List ℕ → List ℕ → Option (Located X509Error)
value_refusal id value = refusal_by_kind (kind_of id) value

-- what is told is this, unless memory ran out
abbrev pub IsOrMemory : Option (Located X509Error) → Option (Located X509Error) → Type 0
IsOrMemory None refusal = refusal ≡ None
IsOrMemory (Some e) refusal = OrMemory e (refusal ≡ Some e)

-- what is told of a value is why it says nothing, unless memory ran out
abbrev pub IsErrorOf : Parsed → Option (Located X509Error) → Type 0
IsErrorOf parsed None = error_in parsed ≡ None
IsErrorOf parsed (Some e) = OrMemory e (parsed ≡ Failed (refusal_by ber_in e.why))
