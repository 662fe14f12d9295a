-- The part of a certificate that is signed (RFC 5280, 4.1.2).
use Rattle.std.specs.Prelude.{◌≡◌, ◌++◌, ℕ, List, Bool, Option, unwrap_or, ◌+◌, map}
use Rattle.x509_der.specs.declared.error.Err.{Err as Refusal}
use Rattle.x509_der.specs.declared.error.Err.TheVariants.{Error}
use Rattle.x509_der.specs.Digits.{without_leading_zeros}
use Rattle.x509_der.specs.Primitives.{Bits}
use Rattle.x509_der.specs.Plan.{◌>>=◌, got, give, strictly_if, with_bytes}
use Rattle.x509_der.specs.Promises.{IsFront, option_view}
use Rattle.x509_fields.specs.declared.error.X509Error.{X509Error}
use Rattle.x509_fields.specs.declared.error.X509Error.TheVariants as x509
use Rattle.x509_fields.specs.Errors.{is_x509_memory}
use Rattle.x509_fields.specs.Algorithm.{Algorithm, algorithm_of, algorithm_heads}
use Rattle.x509_fields.specs.Fields.{Field, sequence, as_x509_renames}
use Rattle.x509_names.specs.Names.{Name, name_of, name_heads}
use Rattle.x509_keys.specs.KeyInfo.{KeyInfo, key_info_of, key_info_heads}
use Rattle.x509_extensions.specs.ExtensionList.{wrapped_extensions, wrapped_extensions_laws, wrapped_heads}
use Rattle.x509_certs.specs.Validity.{Period, period_of, period_heads}
use Rattle.x509_certs.specs.BasicFields.{basic_fields, basic_fields_laws}
use Rattle.x509_der.proofs.Marked.{strictly_if_laws}
use Rattle.x509_der.specs.Laws.{IsMarkedElement}
use Rattle.x509_der.proofs.Marking.{marked}
use Rattle.x509_certs.specs.ExplicitVersion.{version_heads}
use Rattle.x509_certs.specs.UniqueIdentifier.{issuer_uid, subject_uid, issuer_uid_laws, subject_uid_laws, bits_of_uid, uid_heads}
use Rattle.x509_der.specs.Unsigned.{unsigned_bytes}
use Rattle.x509_extensions.specs.Extension.{Extension, extension_of, at_depth}
use Rattle.x509_certs.specs.declared.tbs_certificate.TbsCertificate.{TbsCertificate}
use Rattle.x509_certs.specs.declared.tbs_parser.TbsCertificateParser.{TbsCertificateParser}

-- ---- the value

-- the part that is signed: raw is its whole element, serial the digits of raw_serial without leading zeros
pub record Tbs : Type 0 where
  pub raw : List ℕ
  pub version : ℕ
  pub raw_serial : List ℕ
  pub serial : List ℕ
  pub signature : Algorithm
  pub issuer : Name
  pub validity : Period
  pub subject : Name
  pub subject_pki : KeyInfo
  pub issuer_uid : Option Bits
  pub subject_uid : Option Bits
  pub extensions : List Extension

abbrev pub tbs_of : TbsCertificate → Tbs
tbs_of t = record {
  raw = t.raw.now;
  version = t.version.0;
  raw_serial = t.raw_serial.now;
  serial = unsigned_bytes t.serial;
  signature = algorithm_of t.signature;
  issuer = name_of t.issuer;
  validity = period_of t.validity;
  subject = name_of t.subject;
  subject_pki = key_info_of t.subject_pki;
  issuer_uid = option_view bits_of_uid t.issuer_uid;
  subject_uid = option_view bits_of_uid t.subject_uid;
  extensions = map extension_of t.extensions;
}

-- ---- depth and strictness

abbrev pub looks_at_values : TbsCertificateParser → Bool
looks_at_values p = p.reader.extensions.deep_parse_extensions

-- whether a reader takes plain signed parts alone
abbrev pub takes_plain_alone : TbsCertificateParser → Bool
takes_plain_alone p = p.strict

-- with each extension at this depth
abbrev pub tbs_at_depth : Bool → Tbs → Tbs
tbs_at_depth deep t = record {
  raw = t.raw;
  version = t.version;
  raw_serial = t.raw_serial;
  serial = t.serial;
  signature = t.signature;
  issuer = t.issuer;
  validity = t.validity;
  subject = t.subject;
  subject_pki = t.subject_pki;
  issuer_uid = t.issuer_uid;
  subject_uid = t.subject_uid;
  extensions = map (at_depth deep) t.extensions;
}

-- ---- the grammar

unfoldable pub tbs : Bool → Field Tbs
tbs deep = with_bytes (sequence do
  basic ← basic_fields
  issuer_uid ← issuer_uid
  subject_uid ← subject_uid
  extensions ← wrapped_extensions 3 deep
  give (λ raw. record {
    raw = raw;
    version = unwrap_or basic.version 0;
    raw_serial = basic.raw_serial;
    serial = without_leading_zeros basic.raw_serial;
    signature = basic.signature;
    issuer = basic.issuer;
    validity = basic.validity;
    subject = basic.subject;
    subject_pki = basic.subject_pki;
    issuer_uid = issuer_uid;
    subject_uid = subject_uid;
    extensions = extensions;
  }))

abbrev pub tbs_by : Bool → Bool → Field Tbs
tbs_by deep strictly = strictly_if strictly (Error x509.Generic) (tbs deep)

-- ---- a signed part that was refused

-- what is refused at one depth is refused at every other
abbrev pub RefusedAtAnyDepth : {A : Type 0} → (Bool → Field A) → List ℕ → Refusal X509Error → Type 0
RefusedAtAnyDepth grammar bytes why = (deep : Bool) → (left : ℕ) × (grammar deep).Refuses bytes why left

-- ---- a signed part that was read

-- a front of the bytes is a signed part with this value: its window is that front, and at the other depth it is one too
pub record SignedPartStands (deep : Bool) (bytes : List ℕ) (t : Tbs) (rest : List ℕ) : Type 0 where
  pub reading : (tbs deep).read bytes ≡ got t rest
  pub window : bytes ≡ t.raw ++ rest
  pub depth : (other : Bool) → IsFront (tbs other) bytes (tbs_at_depth other t) rest

-- ---- heads

abbrev pub tbs_heads : Tbs → ℕ
tbs_heads t =
    1 + (version_heads t.version + 1 + algorithm_heads t.signature + name_heads t.issuer + period_heads t.validity + name_heads t.subject
    + key_info_heads t.subject_pki) + uid_heads t.issuer_uid + uid_heads t.subject_uid + wrapped_heads t.extensions

-- ---- laws

pub tbs_laws : (deep : Bool) → IsMarkedElement is_x509_memory (tbs deep)
unfolding tbs
tbs_laws deep = search (marked, as_x509_renames, basic_fields_laws, issuer_uid_laws, subject_uid_laws, wrapped_extensions_laws) depth 60

pub tbs_by_laws : (deep strictly : Bool) → IsMarkedElement is_x509_memory (tbs_by deep strictly)
tbs_by_laws deep strictly = strictly_if_laws is_x509_memory strictly x509.Generic (tbs deep) (tbs_laws deep)
