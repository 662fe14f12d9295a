-- What holds of structures that are no elements: they are read from their own bytes alone, whatever they begin with.
use Rattle.std.specs.Prelude.{◌≡◌, ℕ, ◌+◌, ◌<◌, Bool, List, ◌++◌, length, take, Result, IfOk, IfErr}
use Rattle.x509_der.specs.declared.error.Err.{Err as Refusal}
use Rattle.x509_der.specs.Laws.{Agrees, Local, NeverMemory, Anywhere, Marks}
use Rattle.x509_der.specs.Plan.{Plan, got, refusing}
use Rattle.x509_der.specs.Promises.{IsFront}
use Rattle.x509_der.specs.Reading.{Gives}

-- reading, grammar and refusals say one thing, of a front of the bytes; no refusal is want of memory; the mark tells what stands plainly
pub record IsMarkedSentence {E A : Type 0} (is_memory : E → Bool) (p : Plan (Refusal E) A) : Type 0 where
  pub agrees : Agrees p
  pub is_local : Local p
  pub never_memory : NeverMemory is_memory p
  pub marks : Marks Anywhere p

-- Read exactly where a front of the bytes is in the grammar, with its value and the rest, and refused exactly as the grammar refuses.
pub record ReadsFront {F A X : Type 0} (view : X → List ℕ × A) (plan : Plan F A) (bytes : List ℕ) (result : Result X F) : Type 0 where
  pub accepted : IfOk result (λ x. IsFront plan bytes (view x).1 (view x).0)
  pub accepts : (a : A) (rest : List ℕ) → IsFront plan bytes a rest → Gives view result (got a rest)
  pub refused : IfErr result (λ e. (left : ℕ) × plan.Refuses bytes e left)
  pub refuses : (e : F) (left : ℕ) → plan.Refuses bytes e left → Gives view result (refusing e)
  -- at most one front is in the grammar, with one value
  pub only : (a b : A) (rest other : List ℕ) → IsFront plan bytes a rest → IsFront plan bytes b other → (a ≡ b) × (rest ≡ other)
  -- bytes behind it only lengthen the rest, and no shorter front of it is in the grammar
  pub longer : IfOk result (λ x. (more : List ℕ) → IsFront plan (bytes ++ more) (view x).1 ((view x).0 ++ more))
  pub shorter : IfOk result (λ x. (n : ℕ) → n + length (view x).0 < length bytes → (a : A) (rest : List ℕ) → IsFront plan (take n bytes) a rest → ⊥)
