-- The visits of the extensions of a certificate or of a list.
use Rattle.std.specs.Prelude.{ℕ, Bool, true, false, List, [], ◌∷◌, ◌++◌, if◌then◌else◌}
use Rattle.std.specs.List.{flat_map}
use Rattle.x509_der.specs.declared.error.BerError.{BerError}
use Rattle.x509_der.specs.declared.error.Err.{Err as Refusal}
use Rattle.x509_fields.specs.Times.{Time}
use Rattle.x509_values.specs.BasicConstraints.{BasicConstraintsValue}
use Rattle.x509_values.specs.ExtendedKeyUsage.{Usages}
use Rattle.x509_values.specs.Policies.{PolicyValue}
use Rattle.x509_values.specs.PolicyConstraints.{PolicyConstraintsValue}
use Rattle.x509_values.specs.PolicyMapping.{PolicyMappingValue}
use Rattle.x509_values.specs.Timestamp.{TimestampValue}
use Rattle.x509_general_names.specs.GeneralName.{GeneralNameValue}
use Rattle.x509_general_names.specs.NameConstraints.{Constraints}
use Rattle.x509_general_names.specs.AuthorityKeyIdentifier.{AuthorityKeyIdentifierValue}
use Rattle.x509_general_names.specs.DistributionPoints.{Point}
use Rattle.x509_general_names.specs.InformationAccess.{Access}
use Rattle.x509_general_names.specs.IssuingDistributionPoint.{IssuingPoint}
use Rattle.x509_extensions.specs.Extension.{Extension}
use Rattle.x509_extensions.specs.Parsed as parsed

-- one visit, with the value that it is passed
pub data Event : Type 0 where
  pre_extensions : List Extension → Event
  extension : Extension → Event
  authority_information_access : List Access → Event
  authority_key_identifier : AuthorityKeyIdentifierValue → Event
  basic_constraints : BasicConstraintsValue → Event
  certificate_policies : List PolicyValue → Event
  crl_distribution_points : List Point → Event
  crl_number : List ℕ → Event
  extended_key_usage : Usages → Event
  inhibit_any_policy : ℕ → Event
  invalidity_date : Time → Event
  issuer_alternative_name : List GeneralNameValue → Event
  issuing_distribution_point : IssuingPoint → Event
  key_usage : ℕ → Event
  ns_cert_type : ℕ → Event
  name_constraints : Constraints → Event
  ns_comment : List ℕ → Event
  policy_constraints : PolicyConstraintsValue → Event
  policy_mappings : List PolicyMappingValue → Event
  reason_code : ℕ → Event
  timestamps : List TimestampValue → Event
  subject_alternative_name : List GeneralNameValue → Event
  subject_key_identifier : List ℕ → Event
  parse_error : Extension → Refusal BerError → Event
  unknown : Extension → Event
  post_extensions : List Extension → Event

-- The visit of what an extension's value says. One that no reader is known for or that wasn't looked at is visited as an unknown
-- extension.
unfoldable pub value_event : Extension → parsed.Parsed → Event
value_event x (parsed.AuthorityInfoAccess v) = authority_information_access v
value_event x (parsed.AuthorityKeyIdentifier v) = authority_key_identifier v
value_event x (parsed.BasicConstraints v) = basic_constraints v
value_event x (parsed.CertificatePolicies v) = certificate_policies v
value_event x (parsed.CRLDistributionPoints v) = crl_distribution_points v
value_event x (parsed.CRLNumber v) = crl_number v
value_event x (parsed.ExtendedKeyUsage v) = extended_key_usage v
value_event x (parsed.InhibitAnyPolicy v) = inhibit_any_policy v
value_event x (parsed.InvalidityDate v) = invalidity_date v
value_event x (parsed.IssuerAlternativeName v) = issuer_alternative_name v
value_event x (parsed.IssuingDistributionPoint v) = issuing_distribution_point v
value_event x (parsed.KeyUsage v) = key_usage v
value_event x (parsed.NSCertType v) = ns_cert_type v
value_event x (parsed.NameConstraints v) = name_constraints v
value_event x (parsed.NsCertComment v) = ns_comment v
value_event x (parsed.PolicyConstraints v) = policy_constraints v
value_event x (parsed.PolicyMappings v) = policy_mappings v
value_event x (parsed.ReasonCode v) = reason_code v
value_event x (parsed.SCT v) = timestamps v
value_event x (parsed.SubjectAlternativeName v) = subject_alternative_name v
value_event x (parsed.SubjectKeyIdentifier v) = subject_key_identifier v
value_event x (parsed.Failed error) = parse_error x error
value_event x _ = unknown x

-- A certificate has no visit of values that are for lists and their entries (RFC 5280, 5.2 and 5.3) ..
unfoldable pub in_certificate : Event → Bool
in_certificate (crl_number v) = false
in_certificate (invalidity_date v) = false
in_certificate (issuing_distribution_point v) = false
in_certificate (reason_code v) = false
in_certificate _ = true

-- .. and a list none of values that are for certificates (RFC 5280, 4.2.1)
unfoldable pub in_list : Event → Bool
in_list (basic_constraints v) = false
in_list (certificate_policies v) = false
in_list (crl_distribution_points v) = false
in_list (extended_key_usage v) = false
in_list (inhibit_any_policy v) = false
in_list (key_usage v) = false
in_list (ns_cert_type v) = false
in_list (name_constraints v) = false
in_list (ns_comment v) = false
in_list (policy_constraints v) = false
in_list (policy_mappings v) = false
in_list (subject_alternative_name v) = false
in_list (subject_key_identifier v) = false
in_list _ = true

-- what has no visit of its own there is visited as an unknown extension
abbrev pub or_unknown : (Event → Bool) → Extension → Event → Event
or_unknown has_visit x e = if has_visit e then e else unknown x

-- an extension is visited as such, and then by what its value says
unfoldable pub extension_events : (Event → Bool) → Extension → List Event
extension_events has_visit x = extension x ∷ or_unknown has_visit x (value_event x x.parsed) ∷ []

-- the extensions together, each of them, and all of them once more
unfoldable pub extensions_events : (Event → Bool) → List Extension → List Event
extensions_events has_visit xs = pre_extensions xs ∷ (flat_map (extension_events has_visit) xs ++ post_extensions xs ∷ [])
