-- Lists of revoked certificates as C sees them.
use Rattle.std.specs.Prelude.{◌≡◌, ℕ, ◌<◌, Bool, List, length, Option, Some, None, slice_index_or}
use Rattle.x509_der.specs.declared.error.Err.TheVariants.{Error}
use Rattle.x509_der.specs.Plan.{strictly_if}
use Rattle.x509_fields.specs.declared.error.X509Error.TheVariants.{Generic}
use Rattle.x509_fields.specs.Fields.{Field}
use Rattle.x509_fields.specs.Signed.{Signed}
use Rattle.x509_extensions.specs.Parsed.{Parsed, ReasonCode}
use Rattle.x509_lists.specs.CertificateList.{certificate_list}
use Rattle.x509_lists.specs.FindRevoked.{first_of, serial_numbers}
use Rattle.x509_lists.specs.RevokedCertificate.{Revoked}
use Rattle.x509_lists.specs.TbsCertList.{TbsList}
use Rattle.x509_names.specs.Objects as objects
use Rattle.x509_report_objects.specs.Lists.{first_parsed}
use Rattle.x509_c.specs.Extensions.{IsExtensionRow}
use Rattle.x509_c.specs.Rows.{RowsShow}
use Rattle.x509_c.specs.Seconds.{AreSecondsOf, AreSecondsOfSome}
use Rattle.x509_c.specs.Options.{is_there, there_or}
use Rattle.x509_c.specs.declared.extensions.ExtensionRow.{ExtensionRow}
use Rattle.x509_c.specs.declared.lists.ListRow.{ListRow}
use Rattle.x509_c.specs.declared.lists.RevokedRow.{RevokedRow}

-- lists, or those alone that stand plainly
abbrev pub list_by : Bool → Field (Signed TbsList)
list_by strictly = strictly_if strictly (Error Generic) certificate_list

-- why a certificate was revoked, as the first extension with that identifier says (RFC 5280, 5.3.1)
abbrev pub code_in : Option Parsed → Option ℕ
code_in (Some (ReasonCode code)) = Some code
code_in _ = None

abbrev pub reason_given : Revoked → Option ℕ
reason_given revoked = code_in (first_parsed objects.reason_code revoked.extensions)

pub record IsRevokedRow (row : RevokedRow) (revoked : Revoked) : Type 0 where
  pub serial : row.serial.now ≡ revoked.raw_serial
  pub revocation_date : AreSecondsOf row.revocation_date revoked.revocation_date
  pub extension_count : row.extension_count ≡ length revoked.extensions
  pub reason : row.reason ≡ there_or 0 (reason_given revoked)
  pub has_reason : row.has_reason ≡ is_there (reason_given revoked)

pub record IsListRow (row : ListRow) (list : Signed TbsList) (behind : List ℕ) : Type 0 where
  pub whole : row.whole.now ≡ list.raw
  pub rest : row.rest.now ≡ behind
  pub signed_part : row.signed_part.now ≡ list.tbs.raw
  pub issuer : row.issuer.now ≡ list.tbs.issuer.raw
  pub signed_algorithm : row.signed_algorithm.now ≡ list.tbs.signature.algorithm
  pub signature_algorithm : row.signature_algorithm.now ≡ list.signature_algorithm.algorithm
  pub signature : row.signature.now ≡ list.signature_value.bytes
  pub this_update : AreSecondsOf row.this_update list.tbs.this_update
  pub next_update : AreSecondsOfSome row.next_update list.tbs.next_update
  pub revoked_count : row.revoked_count ≡ length list.tbs.revoked_certificates
  pub extension_count : row.extension_count ≡ length list.tbs.extensions
  pub has_next_update : row.has_next_update ≡ is_there list.tbs.next_update
  pub version : row.version ≡ there_or 0 list.tbs.version
  pub has_version : row.has_version ≡ is_there list.tbs.version

-- the list, and its entries and its extensions as far as there are rows
pub record ShowsList (row : ListRow) (entries : List RevokedRow) (rows : List ExtensionRow) (list : Signed TbsList) (behind : List ℕ) : Type 0 where
  pub fields : IsListRow row list behind
  pub revoked : RowsShow IsRevokedRow entries list.tbs.revoked_certificates
  pub extensions : RowsShow IsExtensionRow rows list.tbs.extensions

-- ---- look-ups

-- the entry at a position, and its position
pub record IsEntryAt (entries : List Revoked) (k : ℕ) (row : RevokedRow) (position : ℕ) : Type 0 where
  pub is : position ≡ k
  pub within : k < length entries
  pub shown : (none : Revoked) → IsRevokedRow row (slice_index_or entries k none)

-- 0 and the entry that was found, or 50
abbrev pub IsFound : List Revoked → Option ℕ → RevokedRow → ℕ → ℕ → Type 0
IsFound entries (Some k) row position status = (status ≡ 0) × IsEntryAt entries k row position
IsFound entries None row position status = status ≡ 50

-- the first entry whose serial is this number
abbrev pub LooksUp : List Revoked → ℕ → RevokedRow → ℕ → ℕ → Type 0
LooksUp entries number = IsFound entries (first_of (serial_numbers entries) number)
