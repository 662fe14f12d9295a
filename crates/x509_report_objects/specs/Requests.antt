-- What a report says of a certification request (RFC 2986, 4).
use Rattle.std.specs.Prelude.{ℕ, List, [], ◌∷◌, ◌++◌, codes, Bool, length}
use Rattle.json.specs.Json.{Json, null, string}
use Rattle.x509_requests.specs.CriAttribute.{Attribute, ParsedAttribute, ChallengePassword, ExtensionRequest, Unsupported}
use Rattle.x509_requests.specs.RequestInfo.{RequestInfo}
use Rattle.x509_fields.specs.Signed.{Signed}
use Rattle.x509_report_lines.specs.Says.{count, list_of, record_of}
use Rattle.x509_report_objects.specs.Certificates.{version_report}
use Rattle.x509_report_objects.specs.Extensions.{extension_report}
use Rattle.x509_report_objects.specs.Algorithms.{algorithm_report, bits_report}
use Rattle.x509_report_objects.specs.Identifiers.{oid_members}
use Rattle.x509_report_objects.specs.Keys.{key_report}
use Rattle.x509_report_objects.specs.Names.{name_report}
use Rattle.x509_report_objects.specs.Octets.{hex}

-- what it is, and what it says
abbrev pub attribute_members : ParsedAttribute → List (List ℕ × Json)
attribute_members (ChallengePassword text) = (codes "kind", string (codes "challenge_password")) ∷ (codes "value", string text) ∷ []
attribute_members (ExtensionRequest extensions) = (codes "kind", string (codes "extension_request")) ∷ (codes "value", list_of extension_report extensions) ∷ []
attribute_members Unsupported = (codes "kind", string (codes "unsupported")) ∷ (codes "value", null) ∷ []

unfoldable pub attribute_report : Attribute → Json
attribute_report a = record_of (oid_members a.oid ++ attribute_members a.parsed ++ (codes "der", hex a.value) ∷ [])

abbrev pub info_members : Bool → RequestInfo → List (List ℕ × Json)
info_members fingerprints i =
    (codes "version", version_report i.version) ∷
    (codes "subject", name_report i.subject) ∷
    (codes "key", key_report fingerprints i.subject_pki) ∷
    (codes "attributes", list_of attribute_report i.attributes) ∷ []

abbrev pub signature_members : Signed RequestInfo → List (List ℕ × Json)
signature_members r =
    (codes "signature_algorithm", algorithm_report r.signature_algorithm) ∷
    (codes "signature", bits_report r.signature_value) ∷
    (codes "tbs_length", count (length r.tbs.raw)) ∷ []

unfoldable pub request_members : Bool → Signed RequestInfo → List (List ℕ × Json)
request_members fingerprints r = info_members fingerprints r.tbs ++ signature_members r
