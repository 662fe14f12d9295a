-- PolicyConstraints ::= SEQUENCE {
--     requireExplicitPolicy  [0] SkipCerts OPTIONAL,
--     inhibitPolicyMapping   [1] SkipCerts OPTIONAL }
-- SkipCerts ::= INTEGER (0..MAX)
-- (RFC 5280, 4.2.1.11), each of at most 32 bits, to its end
use Rattle.std.specs.Prelude.{ℕ, ◌+◌, Option}
use Rattle.x509_der.specs.declared.error.BerError.TheVariants as ber
use Rattle.x509_der.specs.Laws.{IsMarkedElement, IsMarkedField, AtEnd}
use Rattle.x509_der.specs.Leaves.{BerPlan, implicit_u32}
use Rattle.x509_der.specs.Plan.{◌>>=◌, give, soft, context, to_end}
use Rattle.x509_der.specs.Promises.{is_ber_memory, ended_early, option_heads}
use Rattle.x509_der.proofs.Marking.{marked}
use Rattle.x509_fields.specs.Errors.{is_x509_memory}
use Rattle.x509_fields.specs.Fields.{Field, lifted, sequence, as_x509_renames}
use Rattle.x509_values.specs.declared.policy_constraints.PolicyConstraints.{PolicyConstraints}

-- ---- the value

pub record PolicyConstraintsValue : Type 0 where
  pub require_explicit_policy : Option ℕ
  pub inhibit_policy_mapping : Option ℕ

abbrev pub policy_constraints_of : PolicyConstraints → PolicyConstraintsValue
policy_constraints_of c = record { require_explicit_policy = c.require_explicit_policy; inhibit_policy_mapping = c.inhibit_policy_mapping }

-- ---- the grammar

unfoldable pub policy_constraints_fields : BerPlan PolicyConstraintsValue
policy_constraints_fields = to_end (ended_early ber.NomError) do
  require_explicit_policy ← soft (context 0) (implicit_u32 0)
  inhibit_policy_mapping ← soft (context 1) (implicit_u32 1)
  give (record { require_explicit_policy = require_explicit_policy; inhibit_policy_mapping = inhibit_policy_mapping })

unfoldable pub policy_constraints : Field PolicyConstraintsValue
policy_constraints = sequence (lifted policy_constraints_fields)

-- ---- heads

abbrev pub policy_constraints_heads : PolicyConstraintsValue → ℕ
policy_constraints_heads c = 1 + option_heads (λ _. 1) c.require_explicit_policy + option_heads (λ _. 1) c.inhibit_policy_mapping

-- ---- laws

pub policy_constraints_fields_laws : IsMarkedField is_ber_memory AtEnd policy_constraints_fields
unfolding policy_constraints_fields
policy_constraints_fields_laws = search marked depth 40

pub policy_constraints_laws : IsMarkedElement is_x509_memory policy_constraints
unfolding policy_constraints
policy_constraints_laws = search (marked, as_x509_renames, policy_constraints_fields_laws) depth 40
