-- Values of extensions with keys and names of others in them, as C sees them.
use Rattle.std.specs.Prelude.{◌≡◌, ℕ, List, [], length}
use Rattle.x509_general_names.specs.AuthorityKeyIdentifier.{AuthorityKeyIdentifierValue}
use Rattle.x509_general_names.specs.InformationAccess.{Access}
use Rattle.x509_c.specs.GeneralNames.{IsGeneralNameRow}
use Rattle.x509_c.specs.Options.{is_there, there_or}
use Rattle.x509_c.specs.Rows.{RowsShow}
use Rattle.x509_c.specs.declared.authorities.AccessRow.{AccessRow}
use Rattle.x509_c.specs.declared.authorities.AuthorityKeyRow.{AuthorityKeyRow}
use Rattle.x509_c.specs.declared.general_names.GeneralNameRow.{GeneralNameRow}

pub record IsAuthorityKeyRow (row : AuthorityKeyRow) (key : AuthorityKeyIdentifierValue) : Type 0 where
  pub key_identifier : row.key_identifier.now ≡ there_or [] key.key_identifier
  pub serial : row.serial.now ≡ there_or [] key.serial
  pub issuer_count : row.issuer_count ≡ length (there_or [] key.issuer)
  pub has_key_identifier : row.has_key_identifier ≡ is_there key.key_identifier
  pub has_issuer : row.has_issuer ≡ is_there key.issuer
  pub has_serial : row.has_serial ≡ is_there key.serial

-- the key, and the names of the issuer of its certificate as far as there are rows
pub record ShowsAuthorityKey (row : AuthorityKeyRow) (rows : List GeneralNameRow) (key : AuthorityKeyIdentifierValue) : Type 0 where
  pub fields : IsAuthorityKeyRow row key
  pub issuer : RowsShow IsGeneralNameRow rows (there_or [] key.issuer)

pub record IsAccessRow (row : AccessRow) (access : Access) : Type 0 where
  pub method : row.method.now ≡ access.method
  pub location : IsGeneralNameRow row.location access.location

-- all accesses are counted, and shown as far as there are rows
pub record ShowsAccesses (written : List AccessRow) (told : ℕ) (accesses : List Access) : Type 0 where
  pub count : told ≡ length accesses
  pub rows : RowsShow IsAccessRow written accesses
