-- What a report says of names (RFC 5280, 4.1.2.4).
use Rattle.std.specs.Prelude.{ℕ, List, [], ◌∷◌, ◌++◌, codes, Result, Ok, Err}
use Rattle.json.specs.Json.{Json, null, string}
use Rattle.x509_fields.specs.declared.error.X509Error.{X509Error}
use Rattle.x509_names.specs.Names.{Attribute, Name, string_in}
use Rattle.x509_names.specs.NameTexts.{lossy_name_text}
use Rattle.x509_names.specs.Objects.{registered_name}
use Rattle.x509_report_lines.specs.Says.{count, list_of, record_of}
use Rattle.x509_report_objects.specs.Identifiers.{oid_members}
use Rattle.x509_report_objects.specs.Octets.{hex}

-- its text, or its octets where it isn't one
abbrev pub value_members : Result (List ℕ) X509Error → List ℕ → List (List ℕ × Json)
value_members (Ok text) octets = (codes "value", string text) ∷ (codes "hex", null) ∷ []
value_members (Err e) octets = (codes "value", null) ∷ (codes "hex", hex octets) ∷ []

unfoldable pub attribute_report : Attribute → Json
attribute_report a = record_of (
    oid_members a.attr_type
    ++ (codes "tag", count a.attr_value.header.tag.0) ∷ value_members (string_in a.attr_value) a.attr_value.contents)

unfoldable pub relative_name_report : List Attribute → Json
relative_name_report r = list_of attribute_report r

unfoldable pub name_report : Name → Json
name_report n = record_of (
    (codes "text", string (lossy_name_text registered_name n)) ∷
    (codes "rdns", list_of relative_name_report n.relative) ∷
    (codes "der", hex n.raw) ∷ [])
