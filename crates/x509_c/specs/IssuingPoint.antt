-- What lists of revoked certificates cover, as C sees it.
use Rattle.std.specs.Prelude.{◌≡◌, List, length}
use Rattle.x509_general_names.specs.IssuingDistributionPoint.{IssuingPoint}
use Rattle.x509_c.specs.DistributionPoints.{full_names, name_kind}
use Rattle.x509_c.specs.Flags.{flag}
use Rattle.x509_c.specs.GeneralNames.{IsGeneralNameRow}
use Rattle.x509_c.specs.Options.{is_there, there_or}
use Rattle.x509_c.specs.Rows.{RowsShow}
use Rattle.x509_c.specs.declared.general_names.GeneralNameRow.{GeneralNameRow}
use Rattle.x509_c.specs.declared.issuing_point.IssuingPointRow.{IssuingPointRow}

pub record IsIssuingPointRow (row : IssuingPointRow) (point : IssuingPoint) : Type 0 where
  pub name_count : row.name_count ≡ length (full_names point.name)
  pub kind : row.name_kind ≡ name_kind point.name
  pub only_user_certs : row.only_user_certs ≡ flag point.user_certs
  pub only_ca_certs : row.only_ca_certs ≡ flag point.ca_certs
  pub has_reasons : row.has_reasons ≡ is_there point.reasons
  pub reasons : row.reasons ≡ there_or 0 point.reasons
  pub indirect_crl : row.indirect_crl ≡ flag point.indirect_crl
  pub only_attribute_certs : row.only_attribute_certs ≡ flag point.attribute_certs

-- the point, and its full names as far as there are rows
pub record ShowsIssuingPoint (row : IssuingPointRow) (names : List GeneralNameRow) (point : IssuingPoint) : Type 0 where
  pub fields : IsIssuingPointRow row point
  pub name_rows : RowsShow IsGeneralNameRow names (full_names point.name)
