-- Elements that are open, the innermost first.
use Rattle.std.specs.Prelude.{ℕ, ◌≤◌, List, [], ◌∷◌}
use denote.Struct.Props as logic
use Rattle.x509_elements.specs.declared.open.Open.{Open}
use Rattle.x509_elements.specs.Cursors.{standing_of}

-- each ends within the next one around it, the last within the octets; and fewer members than octets stand before
abbrev pub AreNested : ℕ → List Open → ℕ → Type 0
AreNested at [] size = at ≤ size
AreNested at (o ∷ os) size = (at ≤ o.end) × ((standing_of o.cursor).number ≤ at) × AreNested o.end os size

-- it has one proof at most
pub nested_once : (at : ℕ) (os : List Open) (size : ℕ) → IsProp (AreNested at os size)
nested_once at [] size = Prim.hlevel logic.props
nested_once at (o ∷ os) size = let deeper : IsProp (AreNested o.end os size) = nested_once o.end os size in Prim.hlevel (deeper, logic.props)
