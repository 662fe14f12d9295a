-- The words of what is set.
use Rattle.std.specs.Prelude.{ℕ, Bool, if◌then◌else◌, List, [], ◌∷◌}

-- each where it is set
unfoldable pub set_words : List (Bool × List ℕ) → List (List ℕ)
set_words [] = []
set_words (r ∷ rs) = if r.0 then r.1 ∷ set_words rs else set_words rs
