-- Distribution points as C sees them.
use Rattle.std.specs.Prelude.{◌≡◌, ℕ, ◌<◌, ◌≤◌, ◌⊎◌, List, [], length, map, Option, Some, None, slice_index_or}
use Rattle.x509_general_names.specs.DistributionPointName.{PointName, FullName, NameRelativeToCRLIssuer}
use Rattle.x509_general_names.specs.declared.distribution_point_name.DistributionPointName.{DistributionPointName}
use Rattle.x509_general_names.specs.declared.distribution_point_name.DistributionPointName.TheVariants as variants
use Rattle.x509_general_names.specs.declared.general_name.GeneralName.{GeneralName}
use Rattle.x509_general_names.specs.DistributionPoints.{Point}
use Rattle.x509_general_names.specs.GeneralName.{GeneralNameValue}
use Rattle.x509_c.specs.GeneralNames.{IsGeneralNameRow}
use Rattle.x509_c.specs.Options.{is_there, there_or}
use Rattle.x509_c.specs.Rows.{RowsShow, numbered_from}
use Rattle.x509_c.specs.declared.distribution_points.PointNameRow.{PointNameRow}
use Rattle.x509_c.specs.declared.distribution_points.PointRow.{PointRow}
use Rattle.x509_c.specs.declared.general_names.GeneralNameRow.{GeneralNameRow}

-- 0 for no name, 1 for full names, 2 for a name that stands relative to the issuer's
abbrev pub name_kind : Option PointName → ℕ
name_kind None = 0
name_kind (Some (FullName names)) = 1
name_kind (Some (NameRelativeToCRLIssuer name)) = 2

abbrev pub full_names : Option PointName → List GeneralNameValue
full_names None = []
full_names (Some (FullName names)) = names
full_names (Some (NameRelativeToCRLIssuer name)) = []

pub record IsPointRow (row : PointRow) (point : Point) : Type 0 where
  pub name_count : row.name_count ≡ length (full_names point.name)
  pub issuer_count : row.issuer_count ≡ length (there_or [] point.issuer)
  pub kind : row.name_kind ≡ name_kind point.name
  pub has_reasons : row.has_reasons ≡ is_there point.reasons
  pub reasons : row.reasons ≡ there_or 0 point.reasons
  pub has_issuer : row.has_issuer ≡ is_there point.issuer

-- the same of a name in memory
abbrev pub names_held : Option DistributionPointName → List GeneralName
names_held None = []
names_held (Some (variants.FullName names)) = names
names_held (Some (variants.NameRelativeToCRLIssuer name)) = []

-- a point, and its names and those of the issuer of its list as far as there are rows
pub record ShowsPoint (point : Point) (row : PointRow) (names issuer : List GeneralNameRow) : Type 0 where
  pub fields : IsPointRow row point
  pub name_rows : RowsShow IsGeneralNameRow names (full_names point.name)
  pub issuer_rows : RowsShow IsGeneralNameRow issuer (there_or [] point.issuer)

-- 0 and the point that stands there, or 50
abbrev pub FindsPoint : List Point → ℕ → PointRow → List GeneralNameRow → List GeneralNameRow → ℕ → Type 0
FindsPoint points position row names issuer status =
    ((status ≡ 0) × (position < length points) × ((none : Point) → ShowsPoint (slice_index_or points position none) row names issuer)) ⊎ ((status ≡ 50) × (length points ≤ position))

-- a name, and the position of its point
pub record IsPointNameRow (row : PointNameRow) (placed : ℕ × GeneralNameValue) : Type 0 where
  pub name : IsGeneralNameRow row.name placed.1
  pub point : row.point ≡ placed.0

-- the full names of all points in order, each with the position of its point
abbrev pub names_of_points : List Point → List (ℕ × GeneralNameValue)
names_of_points points = numbered_from 0 (map (λ point. full_names point.name) points)

-- the names of the issuers of their lists
abbrev pub issuers_of_points : List Point → List (ℕ × GeneralNameValue)
issuers_of_points points = numbered_from 0 (map (λ point. there_or [] point.issuer) points)
