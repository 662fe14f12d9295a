-- Certification requests as C sees them.
use Rattle.std.specs.Prelude.{◌≡◌, ℕ, Bool, List, length}
use Rattle.x509_der.specs.declared.error.Err.TheVariants.{Error}
use Rattle.x509_der.specs.Plan.{strictly_if}
use Rattle.x509_fields.specs.declared.error.X509Error.TheVariants.{Generic}
use Rattle.x509_fields.specs.Fields.{Field}
use Rattle.x509_fields.specs.Signed.{Signed}
use Rattle.x509_keys.specs.PublicKey.{key_in}
use Rattle.x509_requests.specs.CriAttribute.{Attribute}
use Rattle.x509_requests.specs.Request.{certification_request}
use Rattle.x509_requests.specs.RequestInfo.{RequestInfo}
use Rattle.x509_c.specs.Keys.{size_in}
use Rattle.x509_c.specs.Rows.{RowsShow}
use Rattle.x509_c.specs.declared.requests.RequestRow.{RequestRow}
use Rattle.x509_c.specs.declared.requests.RequestAttributeRow.{RequestAttributeRow}

-- requests, or those alone that stand plainly
abbrev pub request_by : Bool → Field (Signed RequestInfo)
request_by strictly = strictly_if strictly (Error Generic) certification_request

pub record IsRequestRow (row : RequestRow) (request : Signed RequestInfo) (behind : List ℕ) : Type 0 where
  pub whole : row.whole.now ≡ request.raw
  pub rest : row.rest.now ≡ behind
  pub signed_part : row.signed_part.now ≡ request.tbs.raw
  pub subject : row.subject.now ≡ request.tbs.subject.raw
  pub key_info : row.key_info.now ≡ request.tbs.subject_pki.raw
  pub key_algorithm : row.key_algorithm.now ≡ request.tbs.subject_pki.algorithm.algorithm
  pub key_bits : row.key_bits.now ≡ request.tbs.subject_pki.key.bytes
  pub signature_algorithm : row.signature_algorithm.now ≡ request.signature_algorithm.algorithm
  pub signature : row.signature.now ≡ request.signature_value.bytes
  pub key_size : row.key_size ≡ size_in (key_in request.tbs.subject_pki)
  pub attribute_count : row.attribute_count ≡ length request.tbs.attributes
  pub version : row.version ≡ request.tbs.version

pub record IsRequestAttributeRow (row : RequestAttributeRow) (attribute : Attribute) : Type 0 where
  pub oid : row.oid.now ≡ attribute.oid
  pub value : row.value.now ≡ attribute.value

-- the request, and its attributes as far as there are rows
pub record ShowsRequest (row : RequestRow) (rows : List RequestAttributeRow) (request : Signed RequestInfo) (behind : List ℕ) : Type 0 where
  pub fields : IsRequestRow row request behind
  pub attributes : RowsShow IsRequestAttributeRow rows request.tbs.attributes
