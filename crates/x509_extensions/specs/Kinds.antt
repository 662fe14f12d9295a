-- Which value an extension holds, by its identifier.
use Rattle.std.specs.Prelude.{ℕ, List, [], ◌∷◌, Option}
use Rattle.std.specs.List.{find}
use Rattle.std.specs.Option.{option_map}
use Rattle.std.specs.Str.{bytes_eq}
use Rattle.x509_names.specs.Objects as objects
use Rattle.x509_extensions.specs.declared.kind.Kind.{Kind}
use Rattle.x509_extensions.specs.declared.kind.Kind.TheVariants as kinds

abbrev pub known : List (List ℕ × Kind)
known =
    (objects.subject_key_identifier, kinds.SubjectKeyIdentifier) ∷
    (objects.key_usage, kinds.KeyUsage) ∷
    (objects.subject_alt_name, kinds.SubjectAlternativeName) ∷
    (objects.issuer_alt_name, kinds.IssuerAlternativeName) ∷
    (objects.basic_constraints, kinds.BasicConstraints) ∷
    (objects.crl_number, kinds.CRLNumber) ∷
    (objects.reason_code, kinds.ReasonCode) ∷
    (objects.invalidity_date, kinds.InvalidityDate) ∷
    (objects.issuing_distribution_point, kinds.IssuingDistributionPoint) ∷
    (objects.name_constraints, kinds.NameConstraints) ∷
    (objects.crl_distribution_points, kinds.CRLDistributionPoints) ∷
    (objects.certificate_policies, kinds.CertificatePolicies) ∷
    (objects.policy_mappings, kinds.PolicyMappings) ∷
    (objects.authority_key_identifier, kinds.AuthorityKeyIdentifier) ∷
    (objects.policy_constraints, kinds.PolicyConstraints) ∷
    (objects.extended_key_usage, kinds.ExtendedKeyUsage) ∷
    (objects.inhibit_any_policy, kinds.InhibitAnyPolicy) ∷
    (objects.authority_info_access, kinds.AuthorityInfoAccess) ∷
    (objects.subject_info_access, kinds.SubjectInfoAccess) ∷
    (objects.ct_list_sct, kinds.SCT) ∷
    (objects.ns_cert_type, kinds.NSCertType) ∷
    (objects.ns_comment, kinds.NsCertComment) ∷
    []

-- none where the identifier has no row
unfoldable pub kind_of : List ℕ → Option Kind
kind_of id = option_map (λ r. r.1) (find (λ r. bytes_eq r.0 id) known)
