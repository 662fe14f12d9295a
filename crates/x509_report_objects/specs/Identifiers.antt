-- What a report says of an identifier: its text, and what it is called where it has a name.
use Rattle.std.specs.Prelude.{ℕ, List, [], ◌∷◌, codes}
use Rattle.json.specs.Json.{Json, string}
use Rattle.x509_der.specs.Oid.{oid_text}
use Rattle.x509_names.specs.Objects.{registered_name}
use Rattle.x509_report_lines.specs.Says.{optional, record_of}

abbrev pub oid_members : List ℕ → List (List ℕ × Json)
oid_members octets = (codes "oid", string (oid_text octets)) ∷ (codes "name", optional string (registered_name octets)) ∷ []

unfoldable pub oid_report : List ℕ → Json
oid_report octets = record_of (oid_members octets)
