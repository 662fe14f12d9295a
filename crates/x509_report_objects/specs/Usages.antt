-- What a report says of the values of extensions that say what a certificate may be used for.
use Rattle.std.specs.Prelude.{ℕ, Bool, List, [], ◌∷◌, ◌++◌, codes}
use Rattle.json.specs.Json.{Json, boolean, string}
use Rattle.x509_fields.specs.Version.{reason_word}
use Rattle.x509_fields.specs.Texts.{set_names}
use Rattle.x509_values.specs.BasicConstraints.{BasicConstraintsValue}
use Rattle.x509_values.specs.ExtendedKeyUsage.{Usages}
use Rattle.x509_values.specs.KeyUsage.{key_usage_words}
use Rattle.x509_values.specs.NsCertType.{ns_cert_type_words}
use Rattle.x509_values.specs.Policies.{PolicyQualifierValue, PolicyValue}
use Rattle.x509_values.specs.PolicyConstraints.{PolicyConstraintsValue}
use Rattle.x509_values.specs.PolicyMapping.{PolicyMappingValue}
use Rattle.x509_report_lines.specs.Flags.{set_words}
use Rattle.x509_report_lines.specs.Says.{optional, count, list_of, record_of}
use Rattle.x509_report_objects.specs.Identifiers.{oid_members, oid_report}
use Rattle.x509_report_objects.specs.Octets.{hex}

unfoldable pub basic_constraints_report : BasicConstraintsValue → Json
basic_constraints_report v = record_of (
    (codes "ca", boolean v.ca) ∷
    (codes "path_len", optional count v.path_len_constraint) ∷ [])

unfoldable pub key_usage_report : ℕ → Json
key_usage_report flags = record_of (
    (codes "flags", count flags) ∷
    (codes "uses", list_of (λ s. string s) (set_names key_usage_words flags)) ∷ [])

unfoldable pub ns_cert_type_report : ℕ → Json
ns_cert_type_report flags = record_of (
    (codes "flags", count flags) ∷
    (codes "types", list_of (λ s. string s) (set_names ns_cert_type_words flags)) ∷ [])

unfoldable pub policy_constraints_report : PolicyConstraintsValue → Json
policy_constraints_report v = record_of (
    (codes "require_explicit_policy", optional count v.require_explicit_policy) ∷
    (codes "inhibit_policy_mapping", optional count v.inhibit_policy_mapping) ∷ [])

unfoldable pub inhibit_any_policy_report : ℕ → Json
inhibit_any_policy_report skip = record_of ((codes "skip_certs", count skip) ∷ [])

unfoldable pub qualifier_report : PolicyQualifierValue → Json
qualifier_report q = record_of (oid_members q.policy_qualifier_id ++ (codes "hex", hex q.qualifier) ∷ [])

unfoldable pub policy_report : PolicyValue → Json
policy_report p = record_of (oid_members p.policy_id ++ (codes "qualifiers", optional (list_of qualifier_report) p.policy_qualifiers) ∷ [])

unfoldable pub policy_mapping_report : PolicyMappingValue → Json
policy_mapping_report m = record_of (
    (codes "issuer_domain_policy", oid_report m.issuer_domain_policy) ∷
    (codes "subject_domain_policy", oid_report m.subject_domain_policy) ∷ [])

-- the purposes with a flag of their own, by the standard's names (RFC 5280, 4.2.1.12)
abbrev pub purposes : Usages → List (Bool × List ℕ)
purposes u =
    (u.any, codes "any") ∷ (u.server_auth, codes "server_auth") ∷ (u.client_auth, codes "client_auth") ∷
    (u.code_signing, codes "code_signing") ∷ (u.email_protection, codes "email_protection") ∷
    (u.time_stamping, codes "time_stamping") ∷ (u.ocsp_signing, codes "ocsp_signing") ∷ []

unfoldable pub extended_key_usage_report : Usages → Json
extended_key_usage_report u = record_of (
    (codes "purposes", list_of (λ s. string s) (set_words (purposes u))) ∷
    (codes "other", list_of oid_report u.other) ∷ [])

-- why a certificate was revoked (RFC 5280, 5.3.1)
unfoldable pub reason_report : ℕ → Json
reason_report code = record_of (
    (codes "code", count code) ∷
    (codes "reason", string (reason_word code)) ∷ [])
