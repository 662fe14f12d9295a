-- What a report says of general names (RFC 5280, 4.2.1.6). A name that is text has it under `value`; a name that is none has its octets.
use Rattle.std.specs.Prelude.{ℕ, List, [], ◌∷◌, ◌++◌, codes, Option, Some, None}
use Rattle.json.specs.Json.{Json, string}
use Rattle.x509_der.specs.Oid.{oid_text}
use Rattle.x509_names.specs.NameTexts.{lossy_name_text}
use Rattle.x509_names.specs.Objects.{registered_name}
use Rattle.x509_general_names.specs.GeneralName.{GeneralNameValue, OtherName, RFC822Name, DNSName, X400Address, DirectoryName, EDIPartyName, URI, IPAddress, RegisteredID, Invalid}
use Rattle.x509_general_names.specs.NameConstraints.{Constraints}
use Rattle.x509_report_lines.specs.Says.{count, optional, list_of, record_of}
use Rattle.x509_report_objects.specs.Addresses.{address_text}
use Rattle.x509_report_objects.specs.Names.{name_report}
use Rattle.x509_report_objects.specs.Octets.{hex}

-- which of the alternatives it is
abbrev pub type : List ℕ → List ℕ × Json
type word = (codes "type", string word)

abbrev pub value : List ℕ → List ℕ × Json
value text = (codes "value", string text)

abbrev pub octets : List ℕ → List ℕ × Json
octets bytes = (codes "hex", hex bytes)

-- the text of an address, where its octets have one
abbrev pub address_members : Option (List ℕ) → List (List ℕ × Json)
address_members (Some text) = value text ∷ []
address_members None = []

abbrev pub general_name_members : GeneralNameValue → List (List ℕ × Json)
general_name_members (OtherName id bytes) = type (codes "other_name") ∷ (codes "oid", string (oid_text id)) ∷ octets bytes ∷ []
general_name_members (RFC822Name text) = type (codes "rfc822_name") ∷ value text ∷ []
general_name_members (DNSName text) = type (codes "dns_name") ∷ value text ∷ []
general_name_members (X400Address e) = type (codes "x400_address") ∷ octets e.contents ∷ []
general_name_members (DirectoryName n) = type (codes "directory_name") ∷ value (lossy_name_text registered_name n) ∷ (codes "name", name_report n) ∷ []
general_name_members (EDIPartyName e) = type (codes "edi_party_name") ∷ octets e.contents ∷ []
general_name_members (URI text) = type (codes "uri") ∷ value text ∷ []
general_name_members (IPAddress bytes) = type (codes "ip_address") ∷ (address_members (address_text bytes) ++ octets bytes ∷ [])
general_name_members (RegisteredID id) = type (codes "registered_id") ∷ value (oid_text id) ∷ []
general_name_members (Invalid tag bytes) = type (codes "invalid") ∷ (codes "tag", count tag) ∷ octets bytes ∷ []

unfoldable pub general_name_report : GeneralNameValue → Json
general_name_report n = record_of (general_name_members n)

unfoldable pub name_constraints_report : Constraints → Json
name_constraints_report c = record_of (
    (codes "permitted", optional (list_of general_name_report) c.permitted) ∷
    (codes "excluded", optional (list_of general_name_report) c.excluded) ∷ [])
