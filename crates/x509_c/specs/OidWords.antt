-- What identifiers are called, as C sees it.
use Rattle.std.specs.Prelude.{◌≡◌, ℕ, List, ◌⊎◌, Option, Some, None}
use Rattle.x509_names.specs.Registry.{Entry}
use Rattle.x509_c.specs.Text.{ShowsText}

-- 0 and both texts of the entry, or 50 where there is none
abbrev pub ShowsEntry : Option Entry → List ℕ → ℕ → List ℕ → ℕ → Type 0 → ℕ → Type 0
ShowsEntry (Some entry) name name_length description description_length Kept status =
    (status ≡ 0) × ShowsText name name_length entry.short_name × ShowsText description description_length entry.description
ShowsEntry None name name_length description description_length Kept status = (status ≡ 50) × Kept

-- the same, or 2 where memory was wanting, and all as it was
abbrev pub TellsEntry : Option Entry → List ℕ → ℕ → List ℕ → ℕ → Type 0 → ℕ → Type 0
TellsEntry found name name_length description description_length Kept status =
    ShowsEntry found name name_length description description_length Kept status ⊎ ((status ≡ 2) × Kept)
