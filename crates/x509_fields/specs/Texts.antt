-- The text of named bits.
use Rattle.std.specs.Prelude.{ℕ, ◌/◌, ◌%◌, ◌==◌, List, [], ◌∷◌, codes, if◌then◌else◌}
use Rattle.std.specs.List.{join_by}

-- the names of the bits that are set, in rising order: the first name is that of bit 0
unfoldable pub set_names : List (List ℕ) → ℕ → List (List ℕ)
set_names [] flags = []
set_names (name ∷ names) flags = if flags % 2 == 1 then name ∷ set_names names (flags / 2) else set_names names (flags / 2)

abbrev pub flags_text : List (List ℕ) → ℕ → List ℕ
flags_text names flags = join_by (λ name. name) (codes ", ") (set_names names flags)
