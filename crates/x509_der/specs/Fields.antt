-- What contracts see of a cursor of fields, and what its steps promise.
use Rattle.std.specs.Prelude.{◌≡◌, ℕ, zero, suc, if◌then◌else◌, ◌+◌, ◌-◌, ◌*◌, ◌≤◌, ◌&&◌, Bool, true, List, length, min, Option, Some, None, Result, Ok, Err, IfOk, IfErr}
use Rattle.x509_der.specs.declared.fields.Fields.{Fields}
use Rattle.x509_der.specs.declared.error.Err.{Err as Refusal}
use Rattle.x509_der.specs.declared.error.Refused.{Refused}
use Rattle.x509_der.specs.declared.header.Header.{Header}
use Rattle.x509_der.specs.declared.look.Form.{Form}
use Rattle.x509_der.specs.Looks.{behind, is_element, CountedBehind}
use Rattle.x509_der.specs.Place.{at, outside_of}
use Rattle.x509_der.specs.Plan.{Plan, soft, any_tag, nothing_left}
use Rattle.x509_der.specs.Promises.{AnswersAt, GivesAt, IsForeign, option_heads}
use Rattle.x509_der.specs.Reading.{AddsAtLeast}

-- the bytes from the next field to the end of the container
abbrev pub next_of : {L : Type 0} → Fields L → List ℕ
next_of f = at f.place

-- what is told of the octets behind the container
abbrev pub outer_of : {L : Type 0} → Fields L → L
outer_of f = outside_of f.place

-- whether all fields so far stand plainly
abbrev pub plain_in : {L : Type 0} → Fields L → Bool
plain_in f = f.plain

-- a field and the look behind it: eight for each byte of the field
abbrev pub CountedStep : {X F : Type 0} → (X → List ℕ) → ℕ → ℕ → List ℕ → Result X F → Type 0
CountedStep next old new place (Ok x) = new + 8 + 8 * length (next x) ≤ old + 8 * length place
CountedStep next old new place (Err e) = new ≤ old + (8 * length place - 8)

abbrev pub CountedSoftBy : {A : Type 0} → Option A → List ℕ → ℕ → ℕ → List ℕ → Type 0
CountedSoftBy (Some a) next old new place = new + 8 + 8 * length next ≤ old + 8 * length place
CountedSoftBy None next old new place = (next ≡ place) × (new ≤ old + (8 * length place - 8))

-- a field that may be absent, and the look behind it: where it is absent the cursor stays, and no more is spent than by a refusal
abbrev pub CountedSoftStep : {X A F : Type 0} → (X → List ℕ × Option A) → ℕ → ℕ → List ℕ → Result X F → Type 0
CountedSoftStep view old new place (Ok x) = CountedSoftBy (view x).1 (view x).0 old new place
CountedSoftStep view old new place (Err e) = new ≤ old + (8 * length place - 8)

abbrev pub soft_looks : {A : Type 0} → Option A → List ℕ → ℕ
soft_looks (Some a) next = min 1 (length next)
soft_looks None next = 0

-- ---- each child is looked at once

-- the looks of a walk over all children from a place on, of at most so many elements: one for each, and one where they have a tail
abbrev pub looks_from : ℕ → List ℕ → ℕ
looks_from zero place = min 1 (length place)
looks_from (suc n) place = if is_element place then suc (looks_from n (behind place)) else min 1 (length place)

-- those that are left once the place was looked at
unfoldable pub ahead : List ℕ → ℕ
ahead place = looks_from (length place) place - min 1 (length place)

-- no more than is left is spent: each child that the cursor passes, it looks at once
abbrev pub LooksOnce : List ℕ → List ℕ → ℕ → ℕ → Type 0
LooksOnce place next old new = new + ahead next ≤ old + ahead place

-- a field spends what its own reader promises, and the cursor its one look
abbrev pub SpendsOnce : {X F : Type 0} → (List ℕ → ℕ → ℕ → Type 0) → (X → List ℕ) → List ℕ → ℕ → ℕ → Result X F → Type 0
SpendsOnce tight next place old new (Ok x) = (between : ℕ) × tight place old between × LooksOnce place (next x) between new
SpendsOnce tight next place old new (Err e) = tight place old new

-- ---- steps

-- What a step over a field promises: its reading, the mark so far, and its tries with the look behind it.
pub record ReadsNext {E A X L : Type 0} (is_memory : E → Bool) (takes_memory : Bool) (heads : A → ℕ) (view : X → List ℕ × A) (beyond : X → L) (mark : X → Bool) (plan : Plan (Refusal E) A) (tight : List ℕ → ℕ → ℕ → Type 0) (plain : Bool) (more : ℕ → L → L) (place : List ℕ) (outside : L) (old new : ℕ) (result : Result X (Refused E L)) : Type 0 where
  pub reads : AnswersAt is_memory takes_memory view plan more place outside result
  pub outer : IfOk result (λ x. beyond x ≡ outside)
  pub marks : IfOk result (λ x. mark x ≡ (plain && plan.marks place))
  pub grows : old ≤ new
  pub count : CountedStep (λ x. (view x).0) old new place result
  pub least : IfOk result (λ x. AddsAtLeast (heads (view x).1 - 1 + min 1 (length (view x).0)) old new)
  pub once : SpendsOnce tight (λ x. (view x).0) place old new result

-- The same of several fields in a row, of which at least so many elements must stand there, at a place that was looked at so often before.
pub record ReadsSeveral {E A X L : Type 0} (is_memory : E → Bool) (takes_memory : Bool) (heads : A → ℕ) (view : X → List ℕ × A) (beyond : X → L) (mark : X → Bool) (plan : Plan (Refusal E) A) (elements looked : ℕ) (plain : Bool) (more : ℕ → L → L) (place : List ℕ) (outside : L) (old new : ℕ) (result : Result X (Refused E L)) : Type 0 where
  pub reads : AnswersAt is_memory takes_memory view plan more place outside result
  pub outer : IfOk result (λ x. beyond x ≡ outside)
  pub marks : IfOk result (λ x. mark x ≡ (plain && plan.marks place))
  pub grows : old ≤ new
  -- eight for each byte, less that look, and less what each of these elements leaves over
  pub count : new ≤ old + (8 * length place - 8 * looked)
  pub sizes : IfOk result (λ x. new + 8 * elements + 8 * length (view x).0 ≤ old + 8 * length place)
  pub least : IfOk result (λ x. AddsAtLeast (heads (view x).1 + min 1 (length (view x).0) - looked) old new)

-- The same of a field that may be absent.
pub record ReadsSoft {E A X L : Type 0} (is_memory : E → Bool) (form : Form) (own : Header → Bool) (heads : A → ℕ) (view : X → List ℕ × Option A) (beyond : X → L) (mark : X → Bool) (plan : Plan (Refusal E) A) (tight : List ℕ → ℕ → ℕ → Type 0) (plain : Bool) (more : ℕ → L → L) (place : List ℕ) (outside : L) (old new : ℕ) (result : Result X (Refused E L)) : Type 0 where
  pub reads : AnswersAt is_memory true view (soft any_tag plan) more place outside result
  pub outer : IfOk result (λ x. beyond x ≡ outside)
  pub marks : IfOk result (λ x. mark x ≡ (plain && (soft any_tag plan).marks place))
  pub grows : old ≤ new
  pub count : CountedSoftStep view old new place result
  -- where an element of another tag stands, no more is tried
  pub foreign : IsForeign form own place → new ≤ old
  pub least : IfOk result (λ x. AddsAtLeast (option_heads heads (view x).1 - 1 + soft_looks (view x).1 (view x).0) old new)
  pub once : SpendsOnce tight (λ x. (view x).0) place old new result

-- What a step over a field promises that is one element with no other in it: it tries nothing but the next place.
pub record StepsLeaf {E A X L : Type 0} (view : X → List ℕ × A) (beyond : X → L) (mark : X → Bool) (plan : Plan (Refusal E) A) (plain : Bool) (more : ℕ → L → L) (place : List ℕ) (outside : L) (old new : ℕ) (result : Result X (Refused E L)) : Type 0 where
  pub reads : GivesAt view plan more place outside result
  pub outer : IfOk result (λ x. beyond x ≡ outside)
  pub marks : IfOk result (λ x. mark x ≡ (plain && plan.marks place))
  pub grows : old ≤ new
  pub refused : IfErr result (λ _. new ≤ old)
  pub sizes : IfOk result (λ x. length (view x).0 + 2 ≤ length place)
  pub few : IfOk result (λ x. new ≤ old + min 1 (length (view x).0))
  pub least : IfOk result (λ x. AddsAtLeast (min 1 (length (view x).0)) old new)
  pub once : IfOk result (λ x. LooksOnce place (view x).0 old new)

abbrev pub SizedSoftBy : {A : Type 0} → Option A → List ℕ → List ℕ → Type 0
SizedSoftBy (Some a) next place = length next + 2 ≤ length place
SizedSoftBy None next place = next ≡ place

-- The same of a field that may be absent: then nothing is tried.
pub record StepsSoftLeaf {F A X L : Type 0} (view : X → List ℕ × Option A) (beyond : X → L) (mark : X → Bool) (plan : Plan F A) (plain : Bool) (place : List ℕ) (outside : L) (old new : ℕ) (result : X) : Type 0 where
  pub reads : (soft any_tag plan).read place ≡ Ok (view result)
  pub outer : beyond result ≡ outside
  pub marks : mark result ≡ (plain && (soft any_tag plan).marks place)
  pub grows : old ≤ new
  pub sizes : SizedSoftBy (view result).1 (view result).0 place
  pub few : new ≤ old + soft_looks (view result).1 (view result).0
  pub least : AddsAtLeast (soft_looks (view result).1 (view result).0) old new
  pub once : LooksOnce place (view result).0 old new

-- What reading the last field promises: nothing behind it is looked at, and it stands plainly where nothing does.
pub record ReadsLast {E A X L : Type 0} (is_memory : E → Bool) (takes_memory : Bool) (heads : A → ℕ) (view : X → A) (plan : Plan (Refusal E) A) (tight : List ℕ → ℕ → ℕ → Type 0) (plain : Bool) (more : ℕ → L → L) (place : List ℕ) (outside : L) (old new : ℕ) (result : Result (X × Bool) (Refused E L)) : Type 0 where
  pub reads : AnswersAt is_memory takes_memory (λ x. (behind place, view x.0)) plan more place outside result
  pub marks : IfOk result (λ x. x.1 ≡ (plain && (plan.marks place && nothing_left (behind place))))
  pub grows : old ≤ new
  pub count : CountedBehind (length (behind place)) old new (length place) result
  pub least : IfOk result (λ x. AddsAtLeast (heads (view x.0) - 1) old new)
  pub once : tight place old new
