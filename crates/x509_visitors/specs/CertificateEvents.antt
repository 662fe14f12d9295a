-- The visits of a walk over a certificate.
use Rattle.std.specs.Prelude.{ℕ, List, [], ◌∷◌, ◌++◌, map, Option}
use Rattle.x509_der.specs.Primitives.{Bits}
use Rattle.x509_fields.specs.Algorithm.{Algorithm}
use Rattle.x509_names.specs.Names.{Name}
use Rattle.x509_keys.specs.KeyInfo.{KeyInfo}
use Rattle.x509_certs.specs.Certificate.{Certificate}
use Rattle.x509_certs.specs.TbsCertificate.{Tbs}
use Rattle.x509_certs.specs.Validity.{Period}
use Rattle.x509_visitors.specs.ExtensionEvents as extensions

-- one visit, with the value that it is passed
pub data Event : Type 0 where
  tbs_certificate : Tbs → Event
  signature_algorithm : Algorithm → Event
  signature_value : Bits → Event
  version : ℕ → Event
  serial_number : List ℕ → Event
  tbs_signature_algorithm : Algorithm → Event
  issuer : Name → Event
  validity : Period → Event
  subject : Name → Event
  subject_public_key_info : KeyInfo → Event
  issuer_unique_id : Option Bits → Event
  subject_unique_id : Option Bits → Event
  of_extensions : extensions.Event → Event

-- the fields before the extensions
unfoldable pub field_events : Tbs → List Event
field_events t =
    version t.version
    ∷ serial_number t.raw_serial
    ∷ tbs_signature_algorithm t.signature
    ∷ issuer t.issuer
    ∷ validity t.validity
    ∷ subject t.subject
    ∷ subject_public_key_info t.subject_pki
    ∷ issuer_unique_id t.issuer_uid
    ∷ subject_unique_id t.subject_uid
    ∷ []

-- the visits of a signed part, in order
unfoldable pub tbs_events : Tbs → List Event
tbs_events t = field_events t ++ map of_extensions (extensions.extensions_events extensions.in_certificate t.extensions)

unfoldable pub signature_events : Certificate → List Event
signature_events c = signature_algorithm c.signature_algorithm ∷ signature_value c.signature_value ∷ []

-- the visits of a certificate, in order
unfoldable pub events : Certificate → List Event
events c = tbs_certificate c.tbs ∷ (tbs_events c.tbs ++ signature_events c)
