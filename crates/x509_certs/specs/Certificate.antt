-- Certificates (RFC 5280, 4.1).
use Rattle.std.specs.Prelude.{ℕ, List, Bool}
use Rattle.x509_der.specs.declared.error.Err.TheVariants.{Error}
use Rattle.x509_der.specs.Primitives.{bit_string}
use Rattle.x509_der.specs.Plan.{strictly_if}
use Rattle.x509_der.specs.Promises.{IsFront}
use Rattle.x509_fields.specs.declared.error.X509Error.TheVariants as x509
use Rattle.x509_fields.specs.Errors.{is_x509_memory}
use Rattle.x509_fields.specs.Algorithm.{algorithm_of}
use Rattle.x509_fields.specs.Fields.{Field}
use Rattle.x509_fields.specs.Signed.{Signed, signed, signed_heads, signed_laws, HoldsPart, SignedStands}
use Rattle.x509_certs.specs.TbsCertificate.{Tbs, tbs, tbs_laws, tbs_of, tbs_at_depth, tbs_heads}
use Rattle.x509_der.proofs.Marked.{strictly_if_laws}
use Rattle.x509_der.specs.Laws.{IsMarkedElement}
use Rattle.x509_certs.specs.declared.certificate.X509Certificate.{X509Certificate}
use Rattle.x509_certs.specs.declared.certificate_parser.X509CertificateParser.{X509CertificateParser}

-- ---- the value

abbrev pub Certificate : Type 0
Certificate = Signed Tbs

abbrev pub certificate_of : X509Certificate → Certificate
certificate_of c = record {
  raw = c.raw.now;
  tbs = tbs_of c.tbs_certificate;
  signature_algorithm = algorithm_of c.signature_algorithm;
  signature_value = bit_string c.signature_value;
}

-- ---- depth and strictness

abbrev pub is_deep : X509CertificateParser → Bool
is_deep p = p.reader.extensions.deep_parse_extensions

-- whether a reader takes plain certificates alone
abbrev pub is_strict : X509CertificateParser → Bool
is_strict p = p.strict

abbrev pub certificate_at_depth : Bool → Certificate → Certificate
certificate_at_depth deep c = record {
  raw = c.raw;
  tbs = tbs_at_depth deep c.tbs;
  signature_algorithm = c.signature_algorithm;
  signature_value = c.signature_value;
}

-- ---- the grammar

-- Certificate ::= SEQUENCE { tbsCertificate TBSCertificate, signatureAlgorithm AlgorithmIdentifier, signatureValue BIT STRING }
unfoldable pub certificate : Bool → Field Certificate
certificate deep = signed (tbs deep)

-- certificates, or those alone that stand plainly
abbrev pub certificate_by : Bool → Bool → Field Certificate
certificate_by deep strictly = strictly_if strictly (Error x509.Generic) (certificate deep)

-- ---- a certificate that was read

-- the part that is signed is the first element in the contents of the certificate's
abbrev pub HoldsSignedPart : Certificate → Type 0
HoldsSignedPart = HoldsPart (λ t. t.raw)

-- A front of the bytes is a certificate with this value. Its window is that front; the signed part's window is that part, whole, and read
-- again by its own reader it gives an equal value and no rest; and at the other depth the same front is a certificate too.
pub record CertificateStands (deep : Bool) (bytes : List ℕ) (c : Certificate) (rest : List ℕ) : Type 0 where
  pub stands : SignedStands (tbs deep) (λ t. t.raw) bytes c rest
  pub depth : (other : Bool) → IsFront (certificate other) bytes (certificate_at_depth other c) rest

-- ---- heads

abbrev pub certificate_heads : Certificate → ℕ
certificate_heads = signed_heads tbs_heads

-- ---- laws

pub certificate_laws : (deep : Bool) → IsMarkedElement is_x509_memory (certificate deep)
unfolding certificate
certificate_laws deep = signed_laws (tbs deep) (tbs_laws deep)

pub certificate_by_laws : (deep strictly : Bool) → IsMarkedElement is_x509_memory (certificate_by deep strictly)
certificate_by_laws deep strictly = strictly_if_laws is_x509_memory strictly x509.Generic (certificate deep) (certificate_laws deep)
