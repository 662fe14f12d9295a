-- Certificates as C sees them.
use Rattle.std.specs.Prelude.{◌≡◌, ℕ, List, length}
use Rattle.std.specs.Borrow.{Bor}
use Rattle.x509_keys.specs.PublicKey.{key_in}
use Rattle.x509_certs.specs.Certificate.{Certificate, certificate_of}
use Rattle.x509_certs.specs.declared.certificate.X509Certificate.{X509Certificate}
use Rattle.x509_c.specs.declared.certificate.CertificateRow.{CertificateRow}
use Rattle.x509_c.specs.declared.extensions.ExtensionRow.{ExtensionRow}
use Rattle.x509_c.specs.Extensions.{IsExtensionRow}
use Rattle.x509_c.specs.Keys.{size_in}
use Rattle.x509_c.specs.Rows.{RowsShow}
use Rattle.x509_c.specs.Seconds.{AreSecondsOf}

-- the octets behind a certificate, and the certificate
abbrev pub read_of : Bor (List ℕ) × X509Certificate → List ℕ × Certificate
read_of x = (x.0.now, certificate_of x.1)

pub record IsCertificateRow (row : CertificateRow) (c : Certificate) (behind : List ℕ) : Type 0 where
  pub whole : row.whole.now ≡ c.raw
  pub rest : row.rest.now ≡ behind
  pub signed_part : row.signed_part.now ≡ c.tbs.raw
  pub serial : row.serial.now ≡ c.tbs.raw_serial
  pub issuer : row.issuer.now ≡ c.tbs.issuer.raw
  pub subject : row.subject.now ≡ c.tbs.subject.raw
  pub key_info : row.key_info.now ≡ c.tbs.subject_pki.raw
  pub key_algorithm : row.key_algorithm.now ≡ c.tbs.subject_pki.algorithm.algorithm
  pub key_bits : row.key_bits.now ≡ c.tbs.subject_pki.key.bytes
  pub signature_algorithm : row.signature_algorithm.now ≡ c.signature_algorithm.algorithm
  pub signature : row.signature.now ≡ c.signature_value.bytes
  pub not_before : AreSecondsOf row.not_before c.tbs.validity.not_before
  pub not_after : AreSecondsOf row.not_after c.tbs.validity.not_after
  pub key_size : row.key_size ≡ size_in (key_in c.tbs.subject_pki)
  pub extension_count : row.extension_count ≡ length c.tbs.extensions
  pub version : row.version ≡ c.tbs.version

pub record ShowsCertificate (row : CertificateRow) (rows : List ExtensionRow) (c : Certificate) (behind : List ℕ) : Type 0 where
  pub fields : IsCertificateRow row c behind
  pub extensions : RowsShow IsExtensionRow rows c.tbs.extensions
