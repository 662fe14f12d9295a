use Rattle.std.proofs.Common.{arith}
use Rattle.std.proofs.lemmas.Grind.{take_at_read}
use Rattle.x509_fields.proofs.Grouped.{grouping}
use Rattle.x509_values.proofs.policy_mapping.PolicyMappings.as_hashmap.Goals as goal

pub loop-mapping-preserved : goal.loop-mapping-preserved
loop-mapping-preserved g c = λ issuer. grind (arith, take_at_read, grouping, c.loop-mapping.invariant issuer, c.in_ok-add_to_group.ensures.ok issuer)
