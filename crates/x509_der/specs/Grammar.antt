-- The grammar of what is one element, with what its readers need to know of it.
use Rattle.std.specs.Prelude.{ℕ, Bool, true, false, List, Result}
use Rattle.x509_der.specs.declared.error.Err.{Err as Refusal}
use Rattle.x509_der.specs.declared.error.Refused.{Refused}
use Rattle.x509_der.specs.declared.header.Header.{Header}
use Rattle.x509_der.specs.declared.look.Form.{Form}
use Rattle.x509_der.specs.Laws.{IsLawful, IsMarked, IsMarkedElement}
use Rattle.x509_der.specs.Plan.{Plan}
use Rattle.x509_der.specs.Primitives.{is_constructed, is_primitive}
use Rattle.x509_der.specs.Promises.{ReadsAt, TriesBounded}
use Rattle.x509_der.specs.Reading.{strict}

pub record Grammar (E A : Type 0) : Type 1 where
  -- the sentences, the refusals, and the one reading of the bytes
  pub plan : Plan (Refusal E) A
  -- these three say one thing, of the first element alone
  pub lawful : IsLawful plan
  -- the mark of what is read tells the sentences that stand plainly from the others
  pub marked : IsMarked plan
  -- the form of the length in the headers that are taken
  pub form : Form
  -- the headers of its own class and number
  pub own_tag : Header → Bool
  -- how many headers a value's element holds: its own, and those of its fields and members
  pub heads : A → ℕ
  -- whether a reading may find no memory
  pub takes_memory : Bool

abbrev pub allocates : Bool
allocates = true

abbrev pub borrows : Bool
borrows = false

-- of elements with these headers
abbrev pub in_element : {E A : Type 0} {is_memory : E → Bool} → Form → (Header → Bool) → (plan : Plan (Refusal E) A) → IsMarkedElement is_memory plan → (A → ℕ) → Bool → Grammar E A
in_element form own_tag plan laws heads takes_memory = record {
  plan = plan;
  lawful = laws.laws.lawful;
  marked = laws.marked;
  form = form;
  own_tag = own_tag;
  heads = heads;
  takes_memory = takes_memory;
}

-- of a SEQUENCE, or a SEQUENCE OF
abbrev pub in_sequence : {E A : Type 0} {is_memory : E → Bool} → (plan : Plan (Refusal E) A) → IsMarkedElement is_memory plan → (A → ℕ) → Bool → Grammar E A
in_sequence plan laws heads takes_memory = in_element strict (is_constructed 16) plan laws heads takes_memory

-- of a SET OF
abbrev pub in_set : {E A : Type 0} {is_memory : E → Bool} → (plan : Plan (Refusal E) A) → IsMarkedElement is_memory plan → (A → ℕ) → Bool → Grammar E A
in_set plan laws heads takes_memory = in_element strict (is_constructed 17) plan laws heads takes_memory

-- of a primitive type with this universal number
abbrev pub in_primitive : {E A : Type 0} {is_memory : E → Bool} → ℕ → (plan : Plan (Refusal E) A) → IsMarkedElement is_memory plan → Grammar E A
in_primitive number plan laws = in_element strict (is_primitive number) plan laws (λ _. 1) borrows

-- ---- what its readers promise

-- at a place that was looked at
abbrev pub ReadsBy : {E A X L : Type 0} → (E → Bool) → Grammar E A → (X → A) → (ℕ → L → L) → List ℕ → L → ℕ → ℕ → Result (X × Bool) (Refused E L) → Type 0
ReadsBy is_memory g view = ReadsAt is_memory g.takes_memory g.form g.own_tag g.heads view g.plan

-- how many headers they try at the front of some bytes
abbrev pub TriesBy : {E A X : Type 0} → Grammar E A → (X → List ℕ × A) → List ℕ → ℕ → ℕ → Result X (Refusal E) → Type 0
TriesBy g = TriesBounded g.form g.own_tag g.heads
