-- What a report says of a list of revoked certificates and of its entries (RFC 5280, 5.1).
use Rattle.std.specs.Prelude.{ℕ, List, [], ◌∷◌, ◌++◌, codes, Option, Some, length}
use Rattle.std.specs.List.{find}
use Rattle.std.specs.Option.{option_map}
use Rattle.std.specs.Str.{bytes_eq}
use Rattle.json.specs.Json.{Json, null}
use Rattle.x509_extensions.specs.Extension.{Extension}
use Rattle.x509_extensions.specs.Parsed.{Parsed, CRLNumber, InvalidityDate, ReasonCode}
use Rattle.x509_lists.specs.RevokedCertificate.{Revoked}
use Rattle.x509_lists.specs.TbsCertList.{TbsList}
use Rattle.x509_names.specs.Objects as objects
use Rattle.x509_fields.specs.Signed.{Signed}
use Rattle.x509_report_lines.specs.Says.{count, optional, list_of, record_of}
use Rattle.x509_report_objects.specs.Certificates.{serial_report, version_report}
use Rattle.x509_report_objects.specs.Extensions.{extension_report}
use Rattle.x509_report_objects.specs.Places.{Found, place_members}
use Rattle.x509_report_objects.specs.Algorithms.{algorithm_report, bits_report}
use Rattle.x509_report_objects.specs.Names.{name_report}
use Rattle.x509_report_objects.specs.Octets.{hex}
use Rattle.x509_report_objects.specs.Times.{time_report}
use Rattle.x509_report_objects.specs.Usages.{reason_report}

-- what the first extension with an identifier says
abbrev pub first_parsed : List ℕ → List Extension → Option Parsed
first_parsed id extensions = option_map (λ e. e.parsed) (find (λ e. bytes_eq e.oid id) extensions)

-- the number of the list (RFC 5280, 5.2.3)
abbrev pub number_report : Option Parsed → Json
number_report (Some (CRLNumber octets)) = hex octets
number_report _ = null

-- why the certificate was revoked (RFC 5280, 5.3.1)
abbrev pub reason_in : Option Parsed → Json
reason_in (Some (ReasonCode code)) = reason_report code
reason_in _ = null

-- since when it is held to be invalid (RFC 5280, 5.3.2)
abbrev pub invalidity_in : Option Parsed → Json
invalidity_in (Some (InvalidityDate t)) = time_report t
invalidity_in _ = null

abbrev pub list_head_members : Signed TbsList → List (List ℕ × Json)
list_head_members c =
    (codes "version", optional version_report c.tbs.version) ∷
    (codes "signature_algorithm", algorithm_report c.signature_algorithm) ∷
    (codes "tbs_signature_algorithm", algorithm_report c.tbs.signature) ∷
    (codes "issuer", name_report c.tbs.issuer) ∷ []

abbrev pub update_members : TbsList → List (List ℕ × Json)
update_members t =
    (codes "this_update", time_report t.this_update) ∷
    (codes "next_update", optional time_report t.next_update) ∷ []

abbrev pub content_members : TbsList → List (List ℕ × Json)
content_members t =
    (codes "entry_count", count (length t.revoked_certificates)) ∷
    (codes "crl_number", number_report (first_parsed objects.crl_number t.extensions)) ∷
    (codes "extensions", list_of extension_report t.extensions) ∷ []

abbrev pub list_tail_members : Signed TbsList → List (List ℕ × Json)
list_tail_members c =
    (codes "signature", bits_report c.signature_value) ∷
    (codes "tbs_length", count (length c.tbs.raw)) ∷ []

unfoldable pub list_members : Signed TbsList → List (List ℕ × Json)
list_members c = list_head_members c ++ update_members c.tbs ++ content_members c.tbs ++ list_tail_members c

unfoldable pub entry_members : Revoked → List (List ℕ × Json)
entry_members r =
    (codes "serial", serial_report r.serial r.raw_serial) ∷
    (codes "revocation_date", time_report r.revocation_date) ∷
    (codes "reason", reason_in (first_parsed objects.reason_code r.extensions)) ∷
    (codes "invalidity_date", invalidity_in (first_parsed objects.invalidity_date r.extensions)) ∷
    (codes "extensions", list_of extension_report r.extensions) ∷ []

-- the fingerprint of the list, where these are wanted, and the number of the entry in it
abbrev pub number_members : Option (List ℕ) → ℕ → List (List ℕ × Json)
number_members fingerprint number = (codes "sha256", optional hex fingerprint) ∷ (codes "entry", count number) ∷ []

unfoldable pub entry_report : Found → Option (List ℕ) → ℕ → Revoked → Json
entry_report p fingerprint number r = record_of (place_members (codes "entry") p ++ number_members fingerprint number ++ entry_members r)
