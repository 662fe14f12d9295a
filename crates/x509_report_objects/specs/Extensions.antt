-- What a report says of extensions (RFC 5280, 4.2, 5.2 and 5.3).
use Rattle.std.specs.Prelude.{[], ◌∷◌, ◌++◌, codes}
use Rattle.json.specs.Json.{Json, null, boolean, string}
use Rattle.x509_der.specs.Words.{ber_word, refusal_word}
use Rattle.x509_extensions.specs.Extension.{Extension}
use Rattle.x509_extensions.specs.KindWords.{kind_word}
use Rattle.x509_extensions.specs.Parsed.{Parsed}
use Rattle.x509_extensions.specs.Parsed as parsed
use Rattle.x509_report_lines.specs.Says.{list_of, record_of}
use Rattle.x509_report_objects.specs.Authorities.{access_report, authority_key_identifier_report, issuing_point_report, point_report}
use Rattle.x509_report_objects.specs.GeneralNames.{general_name_report, name_constraints_report}
use Rattle.x509_report_objects.specs.Identifiers.{oid_members}
use Rattle.x509_report_objects.specs.Octets.{hex}
use Rattle.x509_report_objects.specs.Times.{time_report}
use Rattle.x509_report_objects.specs.Timestamps.{timestamp_report}
use Rattle.x509_report_objects.specs.Usages.{basic_constraints_report, extended_key_usage_report, inhibit_any_policy_report, key_usage_report, ns_cert_type_report, policy_constraints_report, policy_mapping_report, policy_report, reason_report}

-- what the value says; of one that can't be read, why
abbrev pub value_report : Parsed → Json
value_report (parsed.Unsupported id) = null
value_report (parsed.Failed refusal) = string (refusal_word ber_word refusal)
value_report parsed.Unparsed = null
value_report (parsed.SubjectKeyIdentifier octets) = hex octets
value_report (parsed.KeyUsage flags) = key_usage_report flags
value_report (parsed.SubjectAlternativeName names) = list_of general_name_report names
value_report (parsed.IssuerAlternativeName names) = list_of general_name_report names
value_report (parsed.BasicConstraints v) = basic_constraints_report v
value_report (parsed.CRLNumber octets) = hex octets
value_report (parsed.ReasonCode code) = reason_report code
value_report (parsed.InvalidityDate t) = time_report t
value_report (parsed.IssuingDistributionPoint p) = issuing_point_report p
value_report (parsed.NameConstraints c) = name_constraints_report c
value_report (parsed.CRLDistributionPoints points) = list_of point_report points
value_report (parsed.CertificatePolicies policies) = list_of policy_report policies
value_report (parsed.PolicyMappings mappings) = list_of policy_mapping_report mappings
value_report (parsed.AuthorityKeyIdentifier v) = authority_key_identifier_report v
value_report (parsed.PolicyConstraints v) = policy_constraints_report v
value_report (parsed.ExtendedKeyUsage v) = extended_key_usage_report v
value_report (parsed.InhibitAnyPolicy skip) = inhibit_any_policy_report skip
value_report (parsed.AuthorityInfoAccess accesses) = list_of access_report accesses
value_report (parsed.SubjectInfoAccess accesses) = list_of access_report accesses
value_report (parsed.SCT timestamps) = list_of timestamp_report timestamps
value_report (parsed.NSCertType flags) = ns_cert_type_report flags
value_report (parsed.NsCertComment text) = string text

unfoldable pub extension_report : Extension → Json
extension_report e = record_of (
    oid_members e.oid
    ++ (codes "critical", boolean e.critical)
    ∷ (codes "kind", string (kind_word e.parsed))
    ∷ (codes "value", value_report e.parsed)
    ∷ (codes "der", hex e.value) ∷ [])
