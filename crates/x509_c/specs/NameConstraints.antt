-- Name constraints as C sees them.
use Rattle.std.specs.Prelude.{◌≡◌, List, [], length}
use Rattle.x509_general_names.specs.NameConstraints.{Constraints}
use Rattle.x509_c.specs.GeneralNames.{IsGeneralNameRow}
use Rattle.x509_c.specs.Options.{is_there, there_or}
use Rattle.x509_c.specs.Rows.{RowsShow}
use Rattle.x509_c.specs.declared.general_names.GeneralNameRow.{GeneralNameRow}
use Rattle.x509_c.specs.declared.name_constraints.NameConstraintsRow.{NameConstraintsRow}

pub record IsNameConstraintsRow (row : NameConstraintsRow) (constraints : Constraints) : Type 0 where
  pub permitted_count : row.permitted_count ≡ length (there_or [] constraints.permitted)
  pub excluded_count : row.excluded_count ≡ length (there_or [] constraints.excluded)
  pub has_permitted : row.has_permitted ≡ is_there constraints.permitted
  pub has_excluded : row.has_excluded ≡ is_there constraints.excluded

-- the constraints, and the names at the roots of their subtrees as far as there are rows
pub record ShowsNameConstraints (row : NameConstraintsRow) (permitted excluded : List GeneralNameRow) (constraints : Constraints) : Type 0 where
  pub fields : IsNameConstraintsRow row constraints
  pub permitted_names : RowsShow IsGeneralNameRow permitted (there_or [] constraints.permitted)
  pub excluded_names : RowsShow IsGeneralNameRow excluded (there_or [] constraints.excluded)
