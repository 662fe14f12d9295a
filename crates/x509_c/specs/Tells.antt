-- What a call tells of what the grammar has at the front of a buffer.
use Rattle.std.specs.Prelude.{◌≡◌, ℕ, ◌+◌, List, ◌⊎◌, length}
use Rattle.x509_der.specs.declared.error.Err.{Err as Refusal}
use Rattle.x509_der.specs.Plan.{Plan}
use Rattle.x509_der.specs.Promises.{IsFront}
use Rattle.x509_fields.specs.declared.error.X509Error.{X509Error}
use Rattle.x509_c.specs.Status.{status_of}

-- Status 2 is want of memory, which may come with any buffer. Kept says that the results are as they were, before and at are the octet
-- that was told before the call and that is told behind it.
pub record Tells {A : Type 0} (plan : Plan (Refusal X509Error) A) (buffer : List ℕ) (Shows : A → List ℕ → ℕ → Type 0) (Kept : Type 0) (before at status : ℕ) : Type 0 where
  -- a front of the buffer is in the grammar: its value is shown, and what stands behind it
  pub read : (value : A) (rest : List ℕ) → IsFront plan buffer value rest → Shows value rest status ⊎ (status ≡ 2)
  -- the grammar refuses the buffer: the refusal's number is told, and the octet at which it refuses
  pub refused : (why : Refusal X509Error) (left : ℕ) → plan.Refuses buffer why left → ((status ≡ status_of why) × (at + left ≡ length buffer)) ⊎ (status ≡ 2)
  -- only what is in the grammar is read
  pub only : (status ≡ 0) ⊎ (status ≡ 50) → (value : A) × (rest : List ℕ) × IsFront plan buffer value rest
  -- what isn't answered by 0 leaves the results as they were
  pub kept : (status ≡ 0 → ⊥) → Kept
  -- and what isn't refused the octet
  pub unplaced : (status ≡ 0) ⊎ (status ≡ 50) ⊎ (status ≡ 2) → at ≡ before

-- The same of a plan that may take all octets that are left: its value is that of the whole buffer, and a front alone might have another.
pub record TellsWhole {A : Type 0} (plan : Plan (Refusal X509Error) A) (buffer : List ℕ) (Shows : A → List ℕ → ℕ → Type 0) (Kept : Type 0) (before at status : ℕ) : Type 0 where
  pub read : (value : A) (rest : List ℕ) → plan.Is buffer value rest → Shows value rest status ⊎ (status ≡ 2)
  pub refused : (why : Refusal X509Error) (left : ℕ) → plan.Refuses buffer why left → ((status ≡ status_of why) × (at + left ≡ length buffer)) ⊎ (status ≡ 2)
  pub only : (status ≡ 0) ⊎ (status ≡ 50) → (value : A) × (rest : List ℕ) × plan.Is buffer value rest
  pub kept : (status ≡ 0 → ⊥) → Kept
  pub unplaced : (status ≡ 0) ⊎ (status ≡ 50) ⊎ (status ≡ 2) → at ≡ before

-- status 0, and what it shows
abbrev pub Done : Type 0 → ℕ → Type 0
Done Shows status = (status ≡ 0) × Shows
