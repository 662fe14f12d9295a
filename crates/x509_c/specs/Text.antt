-- Texts in memory of the caller.
use Rattle.std.specs.Prelude.{◌≡◌, ℕ, ◌<◌, ◌+◌, ◌-◌, ◌++◌, ◌⊎◌, List, [], ◌∷◌, min, length, take}

-- as much of the text as has room, and an octet 0 behind it; the octets behind that are as they were, or anything
abbrev pub HoldsText : List ℕ → List ℕ → Type 0
HoldsText out text = 0 < length out → let count = min (length text) (length out - 1) in take (count + 1) out ≡ take count text ++ 0 ∷ []

-- the same, and its whole length
pub record ShowsText (out : List ℕ) (told : ℕ) (shown : List ℕ) : Type 0 where
  pub text : HoldsText out shown
  pub whole : told ≡ length shown

-- status 0 and the text, or 2 where memory was wanting, and all as it was
abbrev pub TellsText : List ℕ → List ℕ → ℕ → Type 0 → ℕ → Type 0
TellsText text out told Kept status = ((status ≡ 0) × ShowsText out told text) ⊎ ((status ≡ 2) × Kept)
