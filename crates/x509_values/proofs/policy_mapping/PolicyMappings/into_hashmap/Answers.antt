use Rattle.std.proofs.Common.{arith}
use Rattle.std.proofs.lemmas.Grind.{common_steps}
use Rattle.x509_fields.proofs.Grouped.{grouping}
use Rattle.x509_values.proofs.policy_mapping.PolicyMappings.into_hashmap.Goals as goal

pub loop-mapping-preserved : goal.loop-mapping-preserved
loop-mapping-preserved g c = record {
  so_far = grind (arith, common_steps);
  groups = λ issuer. grind (arith, grouping, c.loop-mapping.invariant.groups issuer, c.in_ok-add_to_group.ensures.ok issuer);
}
