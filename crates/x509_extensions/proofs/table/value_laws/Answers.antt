use Rattle.std.proofs.Common.{refl, ap}
use Rattle.x509_names.specs.Objects as objects
use Rattle.x509_fields.specs.Fields.{lifted}
use Rattle.x509_extensions.specs.Kinds.{kind_of}
use Rattle.x509_extensions.specs.Parsed.{parsed_by, parsed_value, sct_laws, SubjectKeyIdentifier, KeyUsage, SubjectAlternativeName, IssuerAlternativeName, BasicConstraints, CRLNumber, ReasonCode, InvalidityDate, IssuingDistributionPoint, NameConstraints, CRLDistributionPoints, CertificatePolicies, PolicyMappings, AuthorityKeyIdentifier, PolicyConstraints, ExtendedKeyUsage, InhibitAnyPolicy, AuthorityInfoAccess, SubjectInfoAccess, SCT, NSCertType, NsCertComment}
use Rattle.x509_extensions.proofs.Rows.{is_row, is_whole_row}
use Rattle.x509_general_names.specs.KeyIdentifier.{key_identifier, key_identifier_laws}
use Rattle.x509_values.specs.KeyUsage.{key_usage, key_usage_laws}
use Rattle.x509_general_names.specs.AlternativeNames.{general_names}
use Rattle.x509_values.specs.BasicConstraints.{basic_constraints, basic_constraints_laws}
use Rattle.x509_values.specs.CrlNumber.{crl_number, crl_number_laws}
use Rattle.x509_values.specs.ReasonCode.{reason_code, reason_code_laws}
use Rattle.x509_values.specs.InvalidityDate.{invalidity_date, invalidity_date_laws}
use Rattle.x509_general_names.specs.IssuingDistributionPoint.{issuing_distribution_point, issuing_distribution_point_laws}
use Rattle.x509_general_names.specs.NameConstraints.{name_constraints, name_constraints_laws}
use Rattle.x509_general_names.specs.DistributionPoints.{crl_distribution_points, crl_distribution_points_laws}
use Rattle.x509_values.specs.Policies.{policies, policies_laws}
use Rattle.x509_values.specs.PolicyMapping.{policy_mappings, policy_mappings_laws}
use Rattle.x509_general_names.specs.AuthorityKeyIdentifier.{authority_key_identifier, authority_key_identifier_laws}
use Rattle.x509_values.specs.PolicyConstraints.{policy_constraints, policy_constraints_laws}
use Rattle.x509_values.specs.ExtendedKeyUsage.{extended_key_usage, extended_key_usage_laws}
use Rattle.x509_values.specs.InhibitAnyPolicy.{inhibit_any_policy, inhibit_any_policy_laws}
use Rattle.x509_general_names.specs.InformationAccess.{information_access, information_access_laws}
use Rattle.x509_values.specs.TimestampList.{timestamps}
use Rattle.x509_values.specs.NsCertType.{ns_cert_type, ns_cert_type_laws}
use Rattle.x509_values.specs.NsComment.{ns_comment}
use Rattle.x509_general_names.specs.AlternativeNamesLaws.{general_names_laws}
use Rattle.x509_values.proofs.Comments.{ns_comment_laws}
use Rattle.x509_extensions.proofs.table.value_laws.Goals as goal

pub returns-clause-subject_key_identifier : goal.returns-clause-subject_key_identifier
unfolding parsed_value kind_of
returns-clause-subject_key_identifier c = is_row objects.subject_key_identifier key_identifier (λ v. SubjectKeyIdentifier v) key_identifier_laws.laws.lawful (λ value. refl) (λ x y e. cc) (λ x r e. cc)

pub returns-clause-key_usage : goal.returns-clause-key_usage
unfolding parsed_value kind_of
returns-clause-key_usage c = is_row objects.key_usage key_usage (λ v. KeyUsage v) key_usage_laws.laws.lawful (λ value. refl) (λ x y e. cc) (λ x r e. cc)

pub returns-clause-subject_alt_name : goal.returns-clause-subject_alt_name
unfolding parsed_value kind_of
returns-clause-subject_alt_name c = is_row objects.subject_alt_name general_names (λ v. SubjectAlternativeName v) general_names_laws.laws.lawful (λ value. refl) (λ x y e. cc) (λ x r e. cc)

pub returns-clause-issuer_alt_name : goal.returns-clause-issuer_alt_name
unfolding parsed_value kind_of
returns-clause-issuer_alt_name c = is_row objects.issuer_alt_name general_names (λ v. IssuerAlternativeName v) general_names_laws.laws.lawful (λ value. refl) (λ x y e. cc) (λ x r e. cc)

pub returns-clause-basic_constraints : goal.returns-clause-basic_constraints
unfolding parsed_value kind_of
returns-clause-basic_constraints c = is_row objects.basic_constraints basic_constraints (λ v. BasicConstraints v) basic_constraints_laws.laws.lawful (λ value. refl) (λ x y e. cc) (λ x r e. cc)

pub returns-clause-crl_number : goal.returns-clause-crl_number
unfolding parsed_value kind_of
returns-clause-crl_number c = is_row objects.crl_number crl_number (λ v. CRLNumber v) crl_number_laws.laws.lawful (λ value. refl) (λ x y e. cc) (λ x r e. cc)

pub returns-clause-reason_code : goal.returns-clause-reason_code
unfolding parsed_value kind_of
returns-clause-reason_code c = is_row objects.reason_code reason_code (λ v. ReasonCode v) reason_code_laws.laws.lawful (λ value. refl) (λ x y e. cc) (λ x r e. cc)

pub returns-clause-invalidity_date : goal.returns-clause-invalidity_date
unfolding parsed_value kind_of
returns-clause-invalidity_date c = is_row objects.invalidity_date invalidity_date (λ v. InvalidityDate v) invalidity_date_laws.laws.lawful (λ value. refl) (λ x y e. cc) (λ x r e. cc)

pub returns-clause-issuing_distribution_point : goal.returns-clause-issuing_distribution_point
unfolding parsed_value kind_of
returns-clause-issuing_distribution_point c = is_row objects.issuing_distribution_point issuing_distribution_point (λ v. IssuingDistributionPoint v) issuing_distribution_point_laws.laws.lawful (λ value. refl) (λ x y e. cc) (λ x r e. cc)

pub returns-clause-name_constraints : goal.returns-clause-name_constraints
unfolding parsed_value kind_of
returns-clause-name_constraints c = is_row objects.name_constraints name_constraints (λ v. NameConstraints v) name_constraints_laws.laws.lawful (λ value. refl) (λ x y e. cc) (λ x r e. cc)

pub returns-clause-crl_distribution_points : goal.returns-clause-crl_distribution_points
unfolding parsed_value kind_of
returns-clause-crl_distribution_points c = is_row objects.crl_distribution_points crl_distribution_points (λ v. CRLDistributionPoints v) crl_distribution_points_laws.laws.lawful (λ value. refl) (λ x y e. cc) (λ x r e. cc)

pub returns-clause-certificate_policies : goal.returns-clause-certificate_policies
unfolding parsed_value kind_of
returns-clause-certificate_policies c = is_row objects.certificate_policies policies (λ v. CertificatePolicies v) policies_laws.laws.lawful (λ value. refl) (λ x y e. cc) (λ x r e. cc)

pub returns-clause-policy_mappings : goal.returns-clause-policy_mappings
unfolding parsed_value kind_of
returns-clause-policy_mappings c = is_row objects.policy_mappings policy_mappings (λ v. PolicyMappings v) policy_mappings_laws.laws.lawful (λ value. refl) (λ x y e. cc) (λ x r e. cc)

pub returns-clause-authority_key_identifier : goal.returns-clause-authority_key_identifier
unfolding parsed_value kind_of
returns-clause-authority_key_identifier c = is_row objects.authority_key_identifier authority_key_identifier (λ v. AuthorityKeyIdentifier v) authority_key_identifier_laws.laws.lawful (λ value. refl) (λ x y e. cc) (λ x r e. cc)

pub returns-clause-policy_constraints : goal.returns-clause-policy_constraints
unfolding parsed_value kind_of
returns-clause-policy_constraints c = is_row objects.policy_constraints policy_constraints (λ v. PolicyConstraints v) policy_constraints_laws.laws.lawful (λ value. refl) (λ x y e. cc) (λ x r e. cc)

pub returns-clause-extended_key_usage : goal.returns-clause-extended_key_usage
unfolding parsed_value kind_of
returns-clause-extended_key_usage c = is_row objects.extended_key_usage extended_key_usage (λ v. ExtendedKeyUsage v) extended_key_usage_laws.laws.lawful (λ value. refl) (λ x y e. cc) (λ x r e. cc)

pub returns-clause-inhibit_any_policy : goal.returns-clause-inhibit_any_policy
unfolding parsed_value kind_of
returns-clause-inhibit_any_policy c = is_row objects.inhibit_any_policy inhibit_any_policy (λ v. InhibitAnyPolicy v) inhibit_any_policy_laws.laws.lawful (λ value. refl) (λ x y e. cc) (λ x r e. cc)

pub returns-clause-authority_info_access : goal.returns-clause-authority_info_access
unfolding parsed_value kind_of
returns-clause-authority_info_access c = is_row objects.authority_info_access information_access (λ v. AuthorityInfoAccess v) information_access_laws.laws.lawful (λ value. refl) (λ x y e. cc) (λ x r e. cc)

pub returns-clause-subject_info_access : goal.returns-clause-subject_info_access
unfolding parsed_value kind_of
returns-clause-subject_info_access c = is_row objects.subject_info_access information_access (λ v. SubjectInfoAccess v) information_access_laws.laws.lawful (λ value. refl) (λ x y e. cc) (λ x r e. cc)

pub returns-clause-ct_list_sct : goal.returns-clause-ct_list_sct
unfolding parsed_value kind_of
returns-clause-ct_list_sct c = is_row objects.ct_list_sct (lifted timestamps) (λ v. SCT v) sct_laws.laws.lawful (λ value. refl) (λ x y e. cc) (λ x r e. cc)

pub returns-clause-ns_cert_type : goal.returns-clause-ns_cert_type
unfolding parsed_value kind_of
returns-clause-ns_cert_type c = is_row objects.ns_cert_type ns_cert_type (λ v. NSCertType v) ns_cert_type_laws.laws.lawful (λ value. refl) (λ x y e. cc) (λ x r e. cc)

pub returns-clause-ns_comment : goal.returns-clause-ns_comment
unfolding parsed_value kind_of
returns-clause-ns_comment c = is_whole_row objects.ns_comment ns_comment (λ v. NsCertComment v) ns_comment_laws.field.agrees (λ value. refl) (λ x y e. cc) (λ x r e. cc)

pub returns-clause-unknown : goal.returns-clause-unknown
unfolding parsed_value
returns-clause-unknown c id value none = ap (λ k. parsed_by k id value) none
