-- What a report says of a certificate (RFC 5280, 4.1).
use Rattle.std.specs.Prelude.{ℕ, ◌+◌, List, [], ◌∷◌, ◌++◌, codes, Bool, false, length, filter, flat_map, Option, Some, None, option_to_list}
use Rattle.std.specs.Str.{bytes_eq}
use Rattle.json.specs.Json.{Json, boolean, string}
use Rattle.x509_der.specs.Unsigned.{unsigned_text}
use Rattle.x509_names.specs.Objects as objects
use Rattle.x509_general_names.specs.GeneralName.{GeneralNameValue, DNSName, IPAddress}
use Rattle.x509_extensions.specs.Extension.{Extension}
use Rattle.x509_extensions.specs.Parsed.{Parsed, BasicConstraints, SubjectAlternativeName}
use Rattle.x509_certs.specs.Certificate.{Certificate}
use Rattle.x509_certs.specs.TbsCertificate.{Tbs}
use Rattle.x509_validators.specs.Message.{Message, warnings_of, errors_of}
use Rattle.x509_validators.specs.SignedPart.{signed_part_messages, is_signed_part_sound}
use Rattle.x509_report_lines.specs.Says.{count, optional, list_of, record_of}
use Rattle.x509_report_objects.specs.Extensions.{extension_report}
use Rattle.x509_report_objects.specs.Addresses.{address_text}
use Rattle.x509_report_objects.specs.Algorithms.{algorithm_report, bits_report}
use Rattle.x509_report_objects.specs.Keys.{key_report}
use Rattle.x509_report_objects.specs.Names.{name_report}
use Rattle.x509_report_objects.specs.Octets.{hex}
use Rattle.x509_report_objects.specs.Times.{time_report}

-- as the standard counts: the first is written 0 (RFC 5280, 4.1.2.1)
abbrev pub version_report : ℕ → Json
version_report written = count (written + 1)

-- without leading zeros, as it is written, and in decimal (RFC 5280, 4.1.2.2)
unfoldable pub serial_report : List ℕ → List ℕ → Json
serial_report number raw = record_of ((codes "hex", hex number) ∷ (codes "raw", hex raw) ∷ (codes "decimal", string (unsigned_text number)) ∷ [])

abbrev pub texts_report : List (List ℕ) → Json
texts_report = list_of (λ s. string s)

-- what the validator of the structure answers and tells
unfoldable pub validator_report : Bool → List Message → Json
validator_report accepts messages = record_of (
    (codes "accepts", boolean accepts) ∷
    (codes "warnings", texts_report (warnings_of messages)) ∷
    (codes "errors", texts_report (errors_of messages)) ∷ [])

abbrev pub name_members : Tbs → List (List ℕ × Json)
name_members t =
    (codes "issuer", name_report t.issuer) ∷
    (codes "not_before", time_report t.validity.not_before) ∷
    (codes "not_after", time_report t.validity.not_after) ∷
    (codes "subject", name_report t.subject) ∷ []

abbrev pub head_members : Certificate → List (List ℕ × Json)
head_members c =
    (codes "version", version_report c.tbs.version) ∷
    (codes "serial", serial_report c.tbs.serial c.tbs.raw_serial) ∷
    (codes "signature_algorithm", algorithm_report c.signature_algorithm) ∷
    (codes "tbs_signature_algorithm", algorithm_report c.tbs.signature) ∷ []

abbrev pub key_members : Bool → Tbs → List (List ℕ × Json)
key_members fingerprints t =
    (codes "key", key_report fingerprints t.subject_pki) ∷
    (codes "issuer_unique_id", optional bits_report t.issuer_uid) ∷
    (codes "subject_unique_id", optional bits_report t.subject_uid) ∷
    (codes "extensions", list_of extension_report t.extensions) ∷ []

abbrev pub tail_members : Certificate → List (List ℕ × Json)
tail_members c =
    (codes "signature", bits_report c.signature_value) ∷
    (codes "tbs_length", count (length c.tbs.raw)) ∷
    (codes "validator", validator_report (is_signed_part_sound c.tbs) (signed_part_messages c.tbs)) ∷ []

-- ---- what is asked for most

-- what a name says of a host: a DNS name, or an address (RFC 5280, 4.2.1.6)
abbrev pub host_in : GeneralNameValue → List (List ℕ)
host_in (DNSName text) = text ∷ []
host_in (IPAddress octets) = option_to_list (address_text octets)
host_in _ = []

abbrev pub hosts_in : Parsed → List (List ℕ)
hosts_in (SubjectAlternativeName names) = flat_map host_in names
hosts_in _ = []

-- the hosts that the certificate is for, by the alternative names of its subject, in order
abbrev pub hosts_of : List Extension → List (List ℕ)
hosts_of extensions = flat_map (λ e. hosts_in e.parsed) extensions

-- what the only extension with an identifier says; two say nothing
abbrev pub said_by_one : List Extension → Option Parsed
said_by_one (e ∷ []) = Some e.parsed
said_by_one _ = None

abbrev pub only_parsed : List ℕ → List Extension → Option Parsed
only_parsed id extensions = said_by_one (filter (λ e. bytes_eq e.oid id) extensions)

-- whether basic constraints say that the subject is a certification authority (RFC 5280, 4.2.1.9)
abbrev pub is_authority : Option Parsed → Bool
is_authority (Some (BasicConstraints v)) = v.ca
is_authority _ = false

abbrev pub summary_members : List Extension → List (List ℕ × Json)
summary_members extensions =
    (codes "hosts", texts_report (hosts_of extensions)) ∷
    (codes "is_ca", boolean (is_authority (only_parsed objects.basic_constraints extensions))) ∷ []

unfoldable pub certificate_members : Bool → Certificate → List (List ℕ × Json)
certificate_members fingerprints c =
    head_members c ++ name_members c.tbs ++ key_members fingerprints c.tbs ++ tail_members c ++ summary_members c.tbs.extensions
