-- What a certification request says (RFC 2986, 4.1).
use Rattle.std.specs.Prelude.{ℕ, List, ◌+◌, map, sum_by}
use Rattle.x509_der.specs.declared.error.Err.TheVariants.{Error}
use Rattle.x509_der.specs.declared.header.Header.{Header}
use Rattle.x509_der.specs.Laws.{IsMarkedField, IsMarkedElement, Anywhere}
use Rattle.x509_der.specs.Leaves.{bare_header, header}
use Rattle.x509_der.specs.Plan.{◌>>=◌, give, plainly, run, to_end, with_bytes}
use Rattle.x509_der.specs.Primitives.{is_implicit}
use Rattle.x509_der.specs.Promises.{ended_early, is_ber_memory}
use Rattle.x509_der.specs.Reading.{strict}
use Rattle.x509_der.proofs.Lawful.{named_field, header_field}
use Rattle.x509_der.proofs.Marking.{marked, bare_header_marked}
use Rattle.x509_fields.specs.declared.error.X509Error.TheVariants as x509
use Rattle.x509_fields.specs.Errors.{is_x509_memory}
use Rattle.x509_fields.specs.Fields.{Field, sequence, as_x509_renames}
use Rattle.x509_names.specs.Names.{Name, name, name_of, name_heads, name_laws}
use Rattle.x509_fields.specs.Version.{version, version_laws}
use Rattle.x509_keys.specs.KeyInfo.{KeyInfo, key_info, key_info_of, key_info_heads}
use Rattle.x509_keys.specs.Laws.{key_info_laws}
use Rattle.x509_extensions.specs.ExtensionList.{closes}
use Rattle.x509_requests.specs.CriAttribute.{Attribute, attribute, attribute_of, attribute_heads}
use Rattle.x509_requests.specs.AttributeLaws.{attribute_laws}
use Rattle.x509_requests.specs.declared.request_info.X509CertificationRequestInfo.{X509CertificationRequestInfo}

-- ---- the value

-- raw is the whole element
pub record RequestInfo : Type 0 where
  pub raw : List ℕ
  pub version : ℕ
  pub subject : Name
  pub subject_pki : KeyInfo
  pub attributes : List Attribute

abbrev pub info_of : X509CertificationRequestInfo → RequestInfo
info_of i = record {
  raw = i.raw.now;
  version = i.version.0;
  subject = name_of i.subject;
  subject_pki = key_info_of i.subject_pki;
  attributes = map attribute_of i.attributes;
}

-- ---- the grammar

-- a header of context class and number 0: neither its form nor its length is looked at
unfoldable pub attributes_header : Field Header
attributes_header = bare_header (λ r. Error x509.InvalidAttributes) (Error x509.InvalidAttributes) (is_implicit 0) strict

-- attributes [0] IMPLICIT SET OF Attribute, which fill all that stands behind that header. Plainly they are a constructed element, which
-- ends where the structure does.
unfoldable pub attributes : Field (List Attribute)
attributes = do
  header ← attributes_header
  _ ← plainly (closes 0 header)
  to_end (ended_early x509.NomError) (run attribute)

-- CertificationRequestInfo ::= SEQUENCE { version INTEGER { v1(0) }, subject Name, subjectPKInfo SubjectPublicKeyInfo,
--     attributes [0] Attributes } (4.1)
unfoldable pub request_info : Field RequestInfo
request_info = with_bytes (sequence do
  version ← version
  subject ← name
  key ← key_info
  attributes ← attributes
  give (λ raw. record { raw = raw; version = version; subject = subject; subject_pki = key; attributes = attributes }))

-- ---- heads

-- the wrapper's, and those of the attributes
abbrev pub attributes_heads : List Attribute → ℕ
attributes_heads xs = 1 + sum_by attribute_heads xs

abbrev pub info_heads : RequestInfo → ℕ
info_heads i = 2 + name_heads i.subject + key_info_heads i.subject_pki + attributes_heads i.attributes

-- ---- laws

attributes_header_laws : IsMarkedField is_x509_memory Anywhere attributes_header
unfolding attributes_header
attributes_header_laws =
    bare_header_marked is_x509_memory (λ r. Error x509.InvalidAttributes) x509.InvalidAttributes (is_implicit 0) strict
    (named_field is_ber_memory is_x509_memory x509.InvalidAttributes (header strict) (header_field strict))

pub attributes_laws : IsMarkedField is_x509_memory Anywhere attributes
unfolding attributes
attributes_laws = search (marked, attributes_header_laws, attribute_laws) depth 40

pub request_info_laws : IsMarkedElement is_x509_memory request_info
unfolding request_info
request_info_laws = search (marked, as_x509_renames, version_laws, name_laws, key_info_laws, attributes_laws) depth 60
