use Rattle.std.proofs.Common.{arith}
use Rattle.std.proofs.lemmas.Grind.{common_steps}
use Rattle.x509_fields.proofs.Grouped.{grouping}
use Rattle.x509_general_names.proofs.information_access.owned.Goals as goal

pub loop-access-preserved : goal.loop-access-preserved
loop-access-preserved g c = record {
  so_far = grind (arith, common_steps);
  groups = λ q. grind (arith, grouping, c.loop-access.invariant.groups q, c.in_ok-add_to_group.ensures.ok q);
}
