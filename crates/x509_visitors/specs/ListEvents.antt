-- The visits of a walk over a list of revoked certificates.
use Rattle.std.specs.Prelude.{ℕ, List, [], ◌∷◌, ◌++◌, map, Option}
use Rattle.x509_der.specs.Primitives.{Bits}
use Rattle.x509_fields.specs.Algorithm.{Algorithm}
use Rattle.x509_names.specs.Names.{Name}
use Rattle.x509_fields.specs.Times.{Time}
use Rattle.x509_fields.specs.Signed.{Signed}
use Rattle.x509_lists.specs.RevokedCertificate.{Revoked}
use Rattle.x509_lists.specs.TbsCertList.{TbsList}
use Rattle.x509_visitors.specs.ExtensionEvents as extensions

-- one visit, with the value that it is passed
pub data Event : Type 0 where
  tbs_cert_list : TbsList → Event
  signature_algorithm : Algorithm → Event
  signature_value : Bits → Event
  version : Option ℕ → Event
  tbs_signature_algorithm : Algorithm → Event
  issuer : Name → Event
  this_update : Time → Event
  next_update : Option Time → Event
  revoked_certificates : List Revoked → Event
  revoked_certificate : Revoked → Event
  of_extensions : extensions.Event → Event

-- the fields before the entries
unfoldable pub field_events : TbsList → List Event
field_events t =
    version t.version
    ∷ tbs_signature_algorithm t.signature
    ∷ issuer t.issuer
    ∷ this_update t.this_update
    ∷ next_update t.next_update
    ∷ []

-- the entries together, and each of them; their extensions aren't visited
unfoldable pub revoked_events : List Revoked → List Event
revoked_events rs = revoked_certificates rs ∷ map revoked_certificate rs

-- the visits of a signed part, in order
unfoldable pub tbs_events : TbsList → List Event
tbs_events t = field_events t ++ (revoked_events t.revoked_certificates ++ map of_extensions (extensions.extensions_events extensions.in_list t.extensions))

unfoldable pub signature_events : Signed TbsList → List Event
signature_events c = signature_algorithm c.signature_algorithm ∷ signature_value c.signature_value ∷ []

-- the visits of a list, in order
unfoldable pub events : Signed TbsList → List Event
events c = tbs_cert_list c.tbs ∷ (tbs_events c.tbs ++ signature_events c)
