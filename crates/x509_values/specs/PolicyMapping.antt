-- PolicyMappings ::= SEQUENCE SIZE (1..MAX) OF SEQUENCE {
--     issuerDomainPolicy   CertPolicyId,
--     subjectDomainPolicy  CertPolicyId }
-- CertPolicyId ::= OBJECT IDENTIFIER
-- (RFC 5280, 4.2.1.5)
use Rattle.std.specs.Prelude.{ℕ, ◌+◌, List, Option, map, sum_by}
use Rattle.x509_der.specs.declared.oid.Oid.{Oid}
use Rattle.x509_der.specs.declared.error.BerError.TheVariants as ber
use Rattle.x509_der.specs.Laws.{IsMarkedElement, IsMarkedField, AtEnd}
use Rattle.x509_der.specs.Leaves.{BerPlan, oid, sequence as sequence_contents}
use Rattle.x509_der.specs.Oid.{oid_bytes}
use Rattle.x509_der.specs.Plan.{◌>>=◌, give, run, to_end, container}
use Rattle.x509_der.specs.Promises.{is_ber_memory, ended_early}
use Rattle.x509_der.proofs.Marking.{marked}
use Rattle.x509_fields.specs.Errors.{is_x509_memory}
use Rattle.x509_fields.specs.Fields.{Field, lifted, sequence, as_x509_renames}
use Rattle.x509_fields.specs.Groups.{grouped}
use Rattle.x509_values.specs.declared.policy_mapping.PolicyMapping.{PolicyMapping}
use Rattle.x509_values.specs.declared.policy_mapping.PolicyMappings.{PolicyMappings}

-- ---- the values

pub record PolicyMappingValue : Type 0 where
  pub issuer_domain_policy : List ℕ
  pub subject_domain_policy : List ℕ

abbrev pub policy_mapping_of : PolicyMapping → PolicyMappingValue
policy_mapping_of m = record { issuer_domain_policy = oid_bytes m.issuer_domain_policy; subject_domain_policy = oid_bytes m.subject_domain_policy }

abbrev pub policy_mappings_of : PolicyMappings → List PolicyMappingValue
policy_mappings_of m = map policy_mapping_of m.mappings

-- ---- the grammar

-- one member; bytes behind the second identifier are skipped
unfoldable pub policy_mapping : BerPlan PolicyMappingValue
policy_mapping = container sequence_contents do
  issuer ← oid
  subject ← oid
  give (record { issuer_domain_policy = issuer; subject_domain_policy = subject })

unfoldable pub policy_mapping_list : BerPlan (List PolicyMappingValue)
policy_mapping_list = to_end (ended_early ber.NomError) (run policy_mapping)

-- the members, to the end; there may be none
unfoldable pub policy_mappings : Field (List PolicyMappingValue)
policy_mappings = sequence (lifted policy_mapping_list)

-- ---- heads

abbrev pub policy_mapping_heads : PolicyMappingValue → ℕ
policy_mapping_heads m = 3

abbrev pub policy_mappings_heads : List PolicyMappingValue → ℕ
policy_mappings_heads ms = 1 + sum_by policy_mapping_heads ms

-- ---- laws

pub policy_mapping_laws : IsMarkedElement is_ber_memory policy_mapping
unfolding policy_mapping
policy_mapping_laws = search marked depth 40

pub policy_mapping_list_laws : IsMarkedField is_ber_memory AtEnd policy_mapping_list
unfolding policy_mapping_list
policy_mapping_list_laws = search (marked, policy_mapping_laws) depth 40

pub policy_mappings_laws : IsMarkedElement is_x509_memory policy_mappings
unfolding policy_mappings
policy_mappings_laws = search (marked, as_x509_renames, policy_mapping_list_laws) depth 40

-- ---- maps

-- the subject policies of an issuer policy, in source order; none where it has no mapping
abbrev pub subjects : List PolicyMapping → Oid → Option (List Oid)
subjects mappings issuer = grouped (λ m. m.issuer_domain_policy) (λ m. m.subject_domain_policy) mappings issuer
