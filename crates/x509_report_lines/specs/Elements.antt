-- The elements that stand one behind another in a file (X.690, 8.1).
use Rattle.std.specs.Prelude.{◌≡◌, ℕ, ◌-◌, List, [], ◌∷◌, ◌++◌, Option, Some, None, Ok, Err, length}
use Rattle.x509_der.specs.Leaves.{any}
use Rattle.x509_der.specs.Plan.{Outcome}

-- how many octets the element at the front of the bytes has, where one stands there
abbrev pub size_read : {X E : Type 0} → List ℕ → Outcome E X → Option ℕ
size_read bytes (Ok x) = Some (length bytes - length x.0)
size_read bytes (Err e) = None

unfoldable pub size_of : List ℕ → Option ℕ
size_of bytes = size_read bytes (any.read bytes)

-- Each of these windows is the element at the front of what the one before left, and at the front of the rest none stands.
unfoldable pub IsSplit : List ℕ → List (List ℕ) → List ℕ → Type 0
IsSplit bytes [] rest = (bytes ≡ rest) × (size_of bytes ≡ None)
IsSplit bytes (e ∷ es) rest = (after : List ℕ) × (bytes ≡ e ++ after) × (size_of bytes ≡ Some (length e)) × IsSplit after es rest
