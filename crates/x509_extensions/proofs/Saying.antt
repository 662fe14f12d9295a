-- What a value says that can be read: never that it can't.
use Rattle.std.proofs.Common.{◌≡◌, ℕ, List, None, Ok, Err, refl, sym, ap, ◌∙◌}
use Rattle.x509_der.specs.declared.error.Err.{Err as Refusal}
use Rattle.x509_der.specs.Plan.{Outcome, and_then, got}
use Rattle.x509_der.proofs.Results.{got_not_err, got_parts}
use Rattle.x509_fields.specs.declared.error.X509Error.{X509Error}
use Rattle.x509_fields.specs.Fields.{Field, lifted}
use Rattle.x509_general_names.specs.KeyIdentifier.{key_identifier}
use Rattle.x509_values.specs.KeyUsage.{key_usage}
use Rattle.x509_general_names.specs.AlternativeNames.{general_names}
use Rattle.x509_values.specs.BasicConstraints.{basic_constraints}
use Rattle.x509_values.specs.CrlNumber.{crl_number}
use Rattle.x509_values.specs.ReasonCode.{reason_code}
use Rattle.x509_values.specs.InvalidityDate.{invalidity_date}
use Rattle.x509_general_names.specs.IssuingDistributionPoint.{issuing_distribution_point}
use Rattle.x509_general_names.specs.NameConstraints.{name_constraints}
use Rattle.x509_general_names.specs.DistributionPoints.{crl_distribution_points}
use Rattle.x509_values.specs.Policies.{policies}
use Rattle.x509_values.specs.PolicyMapping.{policy_mappings}
use Rattle.x509_general_names.specs.AuthorityKeyIdentifier.{authority_key_identifier}
use Rattle.x509_values.specs.PolicyConstraints.{policy_constraints}
use Rattle.x509_values.specs.ExtendedKeyUsage.{extended_key_usage}
use Rattle.x509_values.specs.InhibitAnyPolicy.{inhibit_any_policy}
use Rattle.x509_general_names.specs.InformationAccess.{information_access}
use Rattle.x509_values.specs.TimestampList.{timestamps}
use Rattle.x509_values.specs.NsCertType.{ns_cert_type}
use Rattle.x509_values.specs.NsComment.{ns_comment}
use Rattle.x509_extensions.specs.Parsed.{Parsed, AuthorityInfoAccess, AuthorityKeyIdentifier, BasicConstraints, CRLDistributionPoints, CRLNumber, CertificatePolicies, ExtendedKeyUsage, InhibitAnyPolicy, InvalidityDate, IssuerAlternativeName, IssuingDistributionPoint, KeyUsage, NSCertType, NameConstraints, NsCertComment, PolicyConstraints, PolicyMappings, ReasonCode, SCT, SubjectAlternativeName, SubjectInfoAccess, SubjectKeyIdentifier, error_in, made, row}
use Rattle.x509_extensions.specs.declared.kind.Kind.{Kind}
use Rattle.x509_extensions.specs.declared.kind.Kind.TheVariants as kinds

made_says : {A : Type 0} (make : A → Parsed) (p : Field A) → ((a : A) → error_in (make a) ≡ None) → (value : List ℕ) (said : Parsed) (next : List ℕ) → (made make p).read value ≡ got said next → error_in said ≡ None
made_says {A} make p never value said next e = go (p.read value) e
  where
    go : (r : Outcome (Refusal X509Error) A) → and_then r (λ a after. got {F = Refusal X509Error} (make a) after) ≡ got said next → error_in said ≡ None
    go (Ok x) e = ap error_in (sym (got_parts (Refusal X509Error) (make x.1) said x.0 next e).0) ∙ never x.1
    go (Err r) e = absurd (got_not_err {F = Refusal X509Error} said next r (sym e))

pub never_failed : (kind : Kind) (value : List ℕ) (said : Parsed) (next : List ℕ) → (row kind).read value ≡ got said next → error_in said ≡ None
never_failed kinds.SubjectKeyIdentifier value said next e = made_says (λ v. SubjectKeyIdentifier v) key_identifier (λ a. refl) value said next e
never_failed kinds.KeyUsage value said next e = made_says (λ v. KeyUsage v) key_usage (λ a. refl) value said next e
never_failed kinds.SubjectAlternativeName value said next e = made_says (λ v. SubjectAlternativeName v) general_names (λ a. refl) value said next e
never_failed kinds.IssuerAlternativeName value said next e = made_says (λ v. IssuerAlternativeName v) general_names (λ a. refl) value said next e
never_failed kinds.BasicConstraints value said next e = made_says (λ v. BasicConstraints v) basic_constraints (λ a. refl) value said next e
never_failed kinds.CRLNumber value said next e = made_says (λ v. CRLNumber v) crl_number (λ a. refl) value said next e
never_failed kinds.ReasonCode value said next e = made_says (λ v. ReasonCode v) reason_code (λ a. refl) value said next e
never_failed kinds.InvalidityDate value said next e = made_says (λ v. InvalidityDate v) invalidity_date (λ a. refl) value said next e
never_failed kinds.IssuingDistributionPoint value said next e = made_says (λ v. IssuingDistributionPoint v) issuing_distribution_point (λ a. refl) value said next e
never_failed kinds.NameConstraints value said next e = made_says (λ v. NameConstraints v) name_constraints (λ a. refl) value said next e
never_failed kinds.CRLDistributionPoints value said next e = made_says (λ v. CRLDistributionPoints v) crl_distribution_points (λ a. refl) value said next e
never_failed kinds.CertificatePolicies value said next e = made_says (λ v. CertificatePolicies v) policies (λ a. refl) value said next e
never_failed kinds.PolicyMappings value said next e = made_says (λ v. PolicyMappings v) policy_mappings (λ a. refl) value said next e
never_failed kinds.AuthorityKeyIdentifier value said next e = made_says (λ v. AuthorityKeyIdentifier v) authority_key_identifier (λ a. refl) value said next e
never_failed kinds.PolicyConstraints value said next e = made_says (λ v. PolicyConstraints v) policy_constraints (λ a. refl) value said next e
never_failed kinds.ExtendedKeyUsage value said next e = made_says (λ v. ExtendedKeyUsage v) extended_key_usage (λ a. refl) value said next e
never_failed kinds.InhibitAnyPolicy value said next e = made_says (λ v. InhibitAnyPolicy v) inhibit_any_policy (λ a. refl) value said next e
never_failed kinds.AuthorityInfoAccess value said next e = made_says (λ v. AuthorityInfoAccess v) information_access (λ a. refl) value said next e
never_failed kinds.SubjectInfoAccess value said next e = made_says (λ v. SubjectInfoAccess v) information_access (λ a. refl) value said next e
never_failed kinds.SCT value said next e = made_says (λ v. SCT v) (lifted timestamps) (λ a. refl) value said next e
never_failed kinds.NSCertType value said next e = made_says (λ v. NSCertType v) ns_cert_type (λ a. refl) value said next e
never_failed kinds.NsCertComment value said next e = made_says (λ v. NsCertComment v) ns_comment (λ a. refl) value said next e
