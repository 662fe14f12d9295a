-- What a report says of the values of an object's extensions that can't be read (RFC 5280, 4.2).
use Rattle.std.specs.Prelude.{ℕ, Bool, true, false, List, [], ◌∷◌, ◌++◌, codes, drop, map, take, Option, Some, None, is_some, if◌then◌else◌}
use Rattle.std.specs.List.{list_any}
use Rattle.json.specs.Json.{Json, array, string}
use Rattle.x509_extensions.specs.Extension.{Extension}
use Rattle.x509_extensions.specs.Parsed.{error_in}
use Rattle.x509_lists.specs.RevokedCertificate.{Revoked}
use Rattle.x509_lists.specs.TbsCertList.{TbsList}
use Rattle.x509_requests.specs.CriAttribute.{Attribute, ParsedAttribute, ExtensionRequest}
use Rattle.x509_requests.specs.RequestInfo.{RequestInfo}
use Rattle.x509_der.specs.Words.{refusal_word}
use Rattle.x509_fields.specs.Errors.{x509_word}
use Rattle.x509_elements.specs.RefusedValues.{refused_values}
use Rattle.x509_elements.specs.declared.refused.refused_value.RefusedValue.{RefusedValue}
use Rattle.x509_elements.specs.Paths.{deepest, path}
use Rattle.x509_elements.specs.declared.part.Part.{Part}
use Rattle.x509_report_lines.specs.Says.{count, items_of, optional, record_of}
use Rattle.x509_report_objects.specs.Errors.{refusal_name}

-- a text that has a character
abbrev pub some_text : List ℕ → Option (List ℕ)
some_text [] = None
some_text (c ∷ cs) = Some (c ∷ cs)

-- the path of fields that leads to the refused octet
abbrev pub path_in : Part → List ℕ → ℕ → Option (List ℕ)
path_in part octets at = some_text (path deepest part octets at [])

-- why a value is refused, at which octet of the object, and the path that leads there
abbrev pub value_report : Option (List ℕ) → RefusedValue → Json
value_report path v = record_of (
    (codes "error", string (refusal_name v.why)) ∷
    (codes "word", string (refusal_word x509_word v.why)) ∷
    (codes "at", count v.at) ∷
    (codes "path", optional (λ s. string s) path) ∷ [])

abbrev pub report_with_path : Part → List ℕ → RefusedValue → Json
report_with_path part octets v = value_report (path_in part octets v.at) v

-- The first hundred with their paths, each of which is looked for from the front of the object on.
abbrev pub value_reports : Part → List ℕ → List RefusedValue → List Json
value_reports part octets vs = map (report_with_path part octets) (take 100 vs) ++ map (value_report None) (drop 100 vs)

-- ---- whether an extension of the object has a value that can't be read: else none is looked for

abbrev pub any_refused : List Extension → Bool
any_refused xs = list_any (λ x. is_some (error_in x.parsed)) xs

-- of a list, its own extensions and those of its entries
abbrev pub any_in_entries : List Revoked → Bool
any_in_entries rs = list_any (λ r. any_refused r.extensions) rs

abbrev pub any_in_list : TbsList → Bool
any_in_list t = if any_refused t.extensions then true else any_in_entries t.revoked_certificates

-- of a request, those that it asks for
abbrev pub any_asked_for : ParsedAttribute → Bool
any_asked_for (ExtensionRequest xs) = any_refused xs
any_asked_for _ = false

abbrev pub any_in_attributes : List Attribute → Bool
any_in_attributes xs = list_any (λ a. any_asked_for a.parsed) xs

abbrev pub any_in_request : RequestInfo → Bool
any_in_request i = any_in_attributes i.attributes

abbrev pub values_if : Bool → Part → List ℕ → List RefusedValue
values_if refused part octets = if refused then refused_values part octets else []

abbrev pub refused_members : Bool → Part → List ℕ → List (List ℕ × Json)
refused_members refused part octets = (codes "refused_values", array (items_of (value_reports part octets (values_if refused part octets)))) ∷ []
