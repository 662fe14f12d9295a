-- What is written as long as memory is given.
use Rattle.std.specs.Prelude.{◌≡◌, ◌++◌, Bool, List, false, refl}
use Rattle.std.specs.Coded.{Coded, code_by, coded×, coded_bool}

-- what stands there so far, and whether memory was refused, so that more should stand there
pub record Kept (A : Type 0) : Type 0 where
  pub so_far : A
  pub stopped : Bool

abbrev pub kept_code : {A : Type 0} → Coded A → Coded (Kept A)
kept_code code = code_by (_ × Bool) (coded× code coded_bool) (λ k. (k.so_far, k.stopped)) (λ p. record { so_far = p.0; stopped = p.1 }) (λ _. refl)

-- this stands there, and nothing was refused
abbrev pub kept : {A : Type 0} → A → Kept A
kept a = record { so_far = a; stopped = false }

-- if no memory was refused, then none was before, and what stands there is f of what stood there
abbrev pub Becomes : {A : Type 0} → Kept A → Kept A → (A → A) → Type 0
Becomes old new f = new.stopped ≡ false → (old.stopped ≡ false) × (new.so_far ≡ f old.so_far)

-- this is added
abbrev pub Grows : {A : Type 0} → Kept (List A) → Kept (List A) → List A → Type 0
Grows old new more = Becomes old new (λ there. there ++ more)
