-- What a report says of the values of extensions that say where more is found, and who signed.
use Rattle.std.specs.Prelude.{ℕ, List, [], ◌∷◌, ◌++◌, codes, Option, Some, None}
use Rattle.json.specs.Json.{Json, null, boolean, string}
use Rattle.x509_fields.specs.Texts.{set_names}
use Rattle.x509_general_names.specs.AuthorityKeyIdentifier.{AuthorityKeyIdentifierValue}
use Rattle.x509_general_names.specs.DistributionPointName.{PointName, FullName, NameRelativeToCRLIssuer}
use Rattle.x509_general_names.specs.DistributionPoints.{Point}
use Rattle.x509_general_names.specs.InformationAccess.{Access}
use Rattle.x509_general_names.specs.IssuingDistributionPoint.{IssuingPoint}
use Rattle.x509_general_names.specs.ReasonFlags.{reason_words}
use Rattle.x509_report_lines.specs.Says.{count, optional, list_of, record_of}
use Rattle.x509_report_objects.specs.GeneralNames.{general_name_report}
use Rattle.x509_report_objects.specs.Identifiers.{oid_members}
use Rattle.x509_report_objects.specs.Names.{relative_name_report}
use Rattle.x509_report_objects.specs.Octets.{hex}

unfoldable pub reason_flags_report : ℕ → Json
reason_flags_report flags = record_of (
    (codes "flags", count flags) ∷
    (codes "reasons", list_of (λ s. string s) (set_names reason_words flags)) ∷ [])

unfoldable pub authority_key_identifier_report : AuthorityKeyIdentifierValue → Json
authority_key_identifier_report v = record_of (
    (codes "key_identifier", optional hex v.key_identifier) ∷
    (codes "issuer", optional (list_of general_name_report) v.issuer) ∷
    (codes "serial", optional hex v.serial) ∷ [])

-- one of two ways to name a point
abbrev pub name_members : PointName → List (List ℕ × Json)
name_members (FullName names) = (codes "full_name", list_of general_name_report names) ∷ (codes "relative_name", null) ∷ []
name_members (NameRelativeToCRLIssuer name) = (codes "full_name", null) ∷ (codes "relative_name", relative_name_report name) ∷ []

abbrev pub point_name_members : Option PointName → List (List ℕ × Json)
point_name_members (Some name) = name_members name
point_name_members None = (codes "full_name", null) ∷ (codes "relative_name", null) ∷ []

unfoldable pub point_report : Point → Json
point_report p = record_of (
    point_name_members p.name
    ++ (codes "reasons", optional reason_flags_report p.reasons)
    ∷ (codes "crl_issuer", optional (list_of general_name_report) p.issuer) ∷ [])

abbrev pub cover_members : IssuingPoint → List (List ℕ × Json)
cover_members p =
    (codes "only_user_certificates", boolean p.user_certs) ∷
    (codes "only_ca_certificates", boolean p.ca_certs) ∷
    (codes "only_some_reasons", optional reason_flags_report p.reasons) ∷
    (codes "indirect_crl", boolean p.indirect_crl) ∷
    (codes "only_attribute_certificates", boolean p.attribute_certs) ∷ []

unfoldable pub issuing_point_report : IssuingPoint → Json
issuing_point_report p = record_of (point_name_members p.name ++ cover_members p)

unfoldable pub access_report : Access → Json
access_report a = record_of (oid_members a.method ++ (codes "location", general_name_report a.location) ∷ [])
