-- The fields that every certificate has, whatever its version (RFC 5280, 4.1.2).
use Rattle.std.specs.Prelude.{ℕ, List, Option, ◌+◌}
use Rattle.x509_der.specs.Plan.{◌>>=◌, give}
use Rattle.x509_der.specs.Promises.{option_view, option_heads}
use Rattle.x509_fields.specs.Errors.{is_x509_memory}
use Rattle.x509_fields.specs.Algorithm.{algorithm, algorithm_laws, Algorithm, algorithm_of, algorithm_heads}
use Rattle.x509_fields.specs.Fields.{Field}
use Rattle.x509_names.specs.Names.{name, name_laws, Name, name_of, name_heads}
use Rattle.x509_fields.specs.Version.{version}
use Rattle.x509_keys.specs.KeyInfo.{key_info, KeyInfo, key_info_of, key_info_heads}
use Rattle.x509_certs.specs.Validity.{Period, validity, validity_laws, period_of, period_heads}
use Rattle.x509_der.specs.Laws.{IsMarkedField, Anywhere}
use Rattle.x509_der.proofs.Marking.{marked}
use Rattle.x509_keys.specs.Laws.{key_info_laws}
use Rattle.x509_fields.specs.Serial.{serial, serial_laws}
use Rattle.x509_certs.specs.ExplicitVersion.{explicit_version, explicit_version_laws}
use Rattle.x509_certs.specs.declared.basic_fields.BasicFields.{BasicFields as Basic}

-- the fields that every certificate has, whatever its version
pub record BasicFields : Type 0 where
  pub version : Option ℕ
  pub raw_serial : List ℕ
  pub signature : Algorithm
  pub issuer : Name
  pub validity : Period
  pub subject : Name
  pub subject_pki : KeyInfo

abbrev pub basic_fields_of : Basic → BasicFields
basic_fields_of b = record {
  version = option_view (λ v. v.0) b.version;
  raw_serial = b.raw_serial.now;
  signature = algorithm_of b.signature;
  issuer = name_of b.issuer;
  validity = period_of b.validity;
  subject = name_of b.subject;
  subject_pki = key_info_of b.subject_pki;
}

-- TBSCertificate ::= SEQUENCE { version [0] EXPLICIT Version DEFAULT v1, serialNumber CertificateSerialNumber,
--     signature AlgorithmIdentifier, issuer Name, validity Validity, subject Name,
--     subjectPublicKeyInfo SubjectPublicKeyInfo, issuerUniqueID [1] IMPLICIT UniqueIdentifier OPTIONAL,
--     subjectUniqueID [2] IMPLICIT UniqueIdentifier OPTIONAL, extensions [3] EXPLICIT Extensions OPTIONAL } (4.1.2)
unfoldable pub basic_fields : Field BasicFields
basic_fields = do
  version ← explicit_version
  serial ← serial
  signature ← algorithm
  issuer ← name
  validity ← validity
  subject ← name
  key ← key_info
  give (record {
    version = version;
    raw_serial = serial;
    signature = signature;
    issuer = issuer;
    validity = validity;
    subject = subject;
    subject_pki = key;
  })

abbrev pub basic_fields_heads : BasicFields → ℕ
basic_fields_heads b =
    option_heads (λ _. 2) b.version + 1 + algorithm_heads b.signature + name_heads b.issuer + period_heads b.validity
    + name_heads b.subject + key_info_heads b.subject_pki

pub basic_fields_laws : IsMarkedField is_x509_memory Anywhere basic_fields
unfolding basic_fields
basic_fields_laws = search (marked, explicit_version_laws, serial_laws, algorithm_laws, name_laws, validity_laws, key_info_laws) depth 60
