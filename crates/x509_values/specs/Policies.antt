-- CertificatePolicies ::= SEQUENCE SIZE (1..MAX) OF PolicyInformation
-- PolicyInformation ::= SEQUENCE {
--     policyIdentifier  CertPolicyId,
--     policyQualifiers  SEQUENCE SIZE (1..MAX) OF PolicyQualifierInfo OPTIONAL }
-- CertPolicyId ::= OBJECT IDENTIFIER
-- PolicyQualifierInfo ::= SEQUENCE {
--     policyQualifierId  PolicyQualifierId,
--     qualifier          ANY DEFINED BY policyQualifierId }
-- PolicyQualifierId ::= OBJECT IDENTIFIER
-- (RFC 5280, 4.2.1.4)
use Rattle.std.specs.Prelude.{ℕ, ◌+◌, List, map, sum_by, Option}
use Rattle.x509_der.specs.declared.error.BerError.TheVariants as ber
use Rattle.x509_der.specs.Laws.{IsMarkedElement, IsMarkedField, AtEnd}
use Rattle.x509_der.specs.Leaves.{BerPlan, oid, sequence as sequence_contents}
use Rattle.x509_der.specs.Oid.{oid_bytes}
use Rattle.x509_der.specs.Plan.{◌>>=◌, give, soft, universal, all_behind, run, run1, to_end, container}
use Rattle.x509_der.specs.Promises.{is_ber_memory, ended_early, empty_run, option_view, option_heads}
use Rattle.x509_der.proofs.Marking.{marked}
use Rattle.x509_fields.specs.Errors.{is_x509_memory}
use Rattle.x509_fields.specs.Fields.{Field, lifted, sequence, as_x509_renames}
use Rattle.x509_values.specs.declared.policies.PolicyQualifierInfo.{PolicyQualifierInfo}
use Rattle.x509_values.specs.declared.policies.PolicyQualifiers.{PolicyQualifiers}
use Rattle.x509_values.specs.declared.policies.PolicyInformation.{PolicyInformation}
use Rattle.x509_values.specs.declared.policies.PolicyList.{PolicyList}

-- ---- the values

pub record PolicyQualifierValue : Type 0 where
  pub policy_qualifier_id : List ℕ
  pub qualifier : List ℕ

abbrev pub policy_qualifier_of : PolicyQualifierInfo → PolicyQualifierValue
policy_qualifier_of q = record { policy_qualifier_id = oid_bytes q.policy_qualifier_id; qualifier = q.qualifier.now }

abbrev pub policy_qualifiers_of : PolicyQualifiers → List PolicyQualifierValue
policy_qualifiers_of q = map policy_qualifier_of q.list

pub record PolicyValue : Type 0 where
  pub policy_id : List ℕ
  pub policy_qualifiers : Option (List PolicyQualifierValue)

abbrev pub policy_of : PolicyInformation → PolicyValue
policy_of p = record { policy_id = oid_bytes p.policy_id; policy_qualifiers = option_view (map policy_qualifier_of) p.policy_qualifiers }

abbrev pub policies_of : PolicyList → List PolicyValue
policies_of p = map policy_of p.policies

-- ---- the grammar

-- an identifier, and all bytes behind it, of which there may be none
unfoldable pub policy_qualifier : BerPlan PolicyQualifierValue
policy_qualifier = container sequence_contents do
  id ← oid
  qualifier ← all_behind
  give (record { policy_qualifier_id = id; qualifier = qualifier })

-- at least one qualifier; bytes behind the last one are skipped
unfoldable pub policy_qualifiers : BerPlan (List PolicyQualifierValue)
policy_qualifiers = container sequence_contents (run1 (empty_run ber.NomError) policy_qualifier)

-- qualifiers that cannot be read are absent; bytes behind the last field are skipped
unfoldable pub policy : BerPlan PolicyValue
policy = container sequence_contents do
  id ← oid
  qualifiers ← soft (universal 16) policy_qualifiers
  give (record { policy_id = id; policy_qualifiers = qualifiers })

unfoldable pub policy_run : BerPlan (List PolicyValue)
policy_run = to_end (ended_early ber.NomError) (run policy)

-- the members, to the end; there may be none
unfoldable pub policies : Field (List PolicyValue)
policies = sequence (lifted policy_run)

-- ---- heads

abbrev pub policy_qualifier_heads : PolicyQualifierValue → ℕ
policy_qualifier_heads q = 2

abbrev pub policy_qualifiers_heads : List PolicyQualifierValue → ℕ
policy_qualifiers_heads qs = 1 + sum_by policy_qualifier_heads qs

abbrev pub policy_heads : PolicyValue → ℕ
policy_heads p = 2 + option_heads policy_qualifiers_heads p.policy_qualifiers

abbrev pub policies_heads : List PolicyValue → ℕ
policies_heads ps = 1 + sum_by policy_heads ps

-- ---- laws

pub policy_qualifier_laws : IsMarkedElement is_ber_memory policy_qualifier
unfolding policy_qualifier
policy_qualifier_laws = search marked depth 40

pub policy_qualifiers_laws : IsMarkedElement is_ber_memory policy_qualifiers
unfolding policy_qualifiers
policy_qualifiers_laws = search (marked, policy_qualifier_laws) depth 40

pub policy_laws : IsMarkedElement is_ber_memory policy
unfolding policy
policy_laws = search (marked, policy_qualifiers_laws) depth 40

pub policy_run_laws : IsMarkedField is_ber_memory AtEnd policy_run
unfolding policy_run
policy_run_laws = search (marked, policy_laws) depth 40

pub policies_laws : IsMarkedElement is_x509_memory policies
unfolding policies
policies_laws = search (marked, as_x509_renames, policy_run_laws) depth 40
