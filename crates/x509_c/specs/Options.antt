-- What may be absent, as numbers.
use Rattle.std.specs.Prelude.{ℕ, Option, Some, None}

-- 1 where it is there, and else 0
abbrev pub is_there : {A : Type 0} → Option A → ℕ
is_there (Some a) = 1
is_there None = 0

abbrev pub there_or : {A : Type 0} → A → Option A → A
there_or other (Some a) = a
there_or other None = other
