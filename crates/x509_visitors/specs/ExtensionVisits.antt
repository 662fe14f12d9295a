-- What a visit of extensions of the code stands for.
use Rattle.std.specs.Prelude.{map}
use Rattle.x509_der.specs.Unsigned.{unsigned_bytes}
use Rattle.x509_extensions.specs.Extension.{extension_of}
use Rattle.x509_fields.specs.Times.{time_of}
use Rattle.x509_general_names.specs.AlternativeNames.{subject_names_of, issuer_names_of}
use Rattle.x509_general_names.specs.AuthorityKeyIdentifier.{authority_key_identifier_of}
use Rattle.x509_general_names.specs.DistributionPoints.{points_of}
use Rattle.x509_general_names.specs.InformationAccess.{authority_accesses_of}
use Rattle.x509_general_names.specs.IssuingDistributionPoint.{issuing_point_of}
use Rattle.x509_general_names.specs.KeyIdentifier.{key_identifier_of}
use Rattle.x509_general_names.specs.NameConstraints.{constraints_of}
use Rattle.x509_values.specs.BasicConstraints.{basic_constraints_of}
use Rattle.x509_values.specs.ExtendedKeyUsage.{usages_of}
use Rattle.x509_values.specs.KeyUsage.{key_usage_of}
use Rattle.x509_values.specs.NsCertType.{ns_cert_type_of}
use Rattle.x509_values.specs.Policies.{policy_of}
use Rattle.x509_values.specs.PolicyConstraints.{policy_constraints_of}
use Rattle.x509_values.specs.PolicyMapping.{policy_mappings_of}
use Rattle.x509_values.specs.Timestamp.{timestamp_of}
use Rattle.x509_visitors.specs.ExtensionEvents as events
use Rattle.x509_visitors.specs.declared.extension_visit.ExtensionVisit.{ExtensionVisit}
use Rattle.x509_visitors.specs.declared.extension_visit.ExtensionVisit.TheVariants as visits

unfoldable pub event_of : ExtensionVisit → events.Event
event_of (visits.PreExtensions v) = events.pre_extensions (map extension_of v.now)
event_of (visits.Extension v) = events.extension (extension_of v.now)
event_of (visits.AuthorityInformationAccess v) = events.authority_information_access (authority_accesses_of v.now)
event_of (visits.AuthorityKeyIdentifier v) = events.authority_key_identifier (authority_key_identifier_of v.now)
event_of (visits.BasicConstraints v) = events.basic_constraints (basic_constraints_of v.now)
event_of (visits.CertificatePolicies v) = events.certificate_policies (map policy_of v.now)
event_of (visits.CrlDistributionPoints v) = events.crl_distribution_points (points_of v.now)
event_of (visits.CrlNumber v) = events.crl_number (unsigned_bytes v.now)
event_of (visits.ExtendedKeyUsage v) = events.extended_key_usage (usages_of v.now)
event_of (visits.InhibitAnyPolicy v) = events.inhibit_any_policy (v.now.skip_certs)
event_of (visits.InvalidityDate v) = events.invalidity_date (time_of v.now)
event_of (visits.IssuerAlternativeName v) = events.issuer_alternative_name (issuer_names_of v.now)
event_of (visits.IssuingDistributionPoint v) = events.issuing_distribution_point (issuing_point_of v.now)
event_of (visits.KeyUsage v) = events.key_usage (key_usage_of v.now)
event_of (visits.NsCertType v) = events.ns_cert_type (ns_cert_type_of v.now)
event_of (visits.NameConstraints v) = events.name_constraints (constraints_of v.now)
event_of (visits.NsComment v) = events.ns_comment v.now
event_of (visits.PolicyConstraints v) = events.policy_constraints (policy_constraints_of v.now)
event_of (visits.PolicyMappings v) = events.policy_mappings (policy_mappings_of v.now)
event_of (visits.ReasonCode v) = events.reason_code (v.now.0)
event_of (visits.Timestamps v) = events.timestamps (map timestamp_of v.now)
event_of (visits.SubjectAlternativeName v) = events.subject_alternative_name (subject_names_of v.now)
event_of (visits.SubjectKeyIdentifier v) = events.subject_key_identifier (key_identifier_of v.now)
event_of (visits.ParseError v error) = events.parse_error (extension_of v.now) error.now
event_of (visits.Unknown v) = events.unknown (extension_of v.now)
event_of (visits.PostExtensions v) = events.post_extensions (map extension_of v.now)
