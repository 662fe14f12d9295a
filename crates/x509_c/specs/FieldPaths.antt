-- Paths of fields as C sees them.
use Rattle.std.specs.Prelude.{◌≡◌, ℕ, ◌==◌, List, [], Option, Some, None, if◌then◌else◌}
use Rattle.x509_elements.specs.declared.part.Part.{Part}
use Rattle.x509_elements.specs.declared.part.Part.TheVariants as parts
use Rattle.x509_elements.specs.Paths.{deepest, path}
use Rattle.x509_c.specs.Text.{TellsText}

-- 1 a certificate, 2 a list, 3 a request
abbrev pub object_by : ℕ → Option Part
object_by kind =
    if kind == 1 then Some parts.Certificate else
    if kind == 2 then Some parts.List else
    if kind == 3 then Some parts.Request else None

-- the path to an octet of the object, or 50 where there is no such kind
abbrev pub TellsPath : Option Part → List ℕ → ℕ → List ℕ → ℕ → Type 0 → ℕ → Type 0
TellsPath (Some part) octets octet out told Kept status = TellsText (path deepest part octets octet []) out told Kept status
TellsPath None octets octet out told Kept status = (status ≡ 50) × Kept
