-- Tables of identifiers.
use Rattle.std.specs.Prelude.{ℕ, List, Option}
use Rattle.std.specs.List.{find}
use Rattle.std.specs.Option.{option_map}
use Rattle.std.specs.Str.{bytes_eq}

-- what stands in the first row with these octets
abbrev pub value_in : {A : Type 0} → List (List ℕ × A) → List ℕ → Option A
value_in rows octets = option_map (λ r. r.1) (find (λ r. bytes_eq r.0 octets) rows)
