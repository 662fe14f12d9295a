-- What is asked of the policies of a path, as C sees it.
use Rattle.std.specs.Prelude.{◌≡◌}
use Rattle.x509_values.specs.PolicyConstraints.{PolicyConstraintsValue}
use Rattle.x509_values.specs.PolicyMapping.{PolicyMappingValue}
use Rattle.x509_c.specs.Options.{is_there, there_or}
use Rattle.x509_c.specs.declared.policy_rules.PolicyConstraintsRow.{PolicyConstraintsRow}
use Rattle.x509_c.specs.declared.policy_rules.PolicyMappingRow.{PolicyMappingRow}

pub record IsPolicyConstraintsRow (row : PolicyConstraintsRow) (constraints : PolicyConstraintsValue) : Type 0 where
  pub has_require_explicit_policy : row.has_require_explicit_policy ≡ is_there constraints.require_explicit_policy
  pub require_explicit_policy : row.require_explicit_policy ≡ there_or 0 constraints.require_explicit_policy
  pub has_inhibit_policy_mapping : row.has_inhibit_policy_mapping ≡ is_there constraints.inhibit_policy_mapping
  pub inhibit_policy_mapping : row.inhibit_policy_mapping ≡ there_or 0 constraints.inhibit_policy_mapping

pub record IsPolicyMappingRow (row : PolicyMappingRow) (mapping : PolicyMappingValue) : Type 0 where
  pub issuer_domain_policy : row.issuer_domain_policy.now ≡ mapping.issuer_domain_policy
  pub subject_domain_policy : row.subject_domain_policy.now ≡ mapping.subject_domain_policy
