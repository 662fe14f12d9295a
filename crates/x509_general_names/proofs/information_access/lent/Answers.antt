use Rattle.std.proofs.Common.{arith}
use Rattle.std.proofs.lemmas.Grind.{take_at_read}
use Rattle.x509_fields.proofs.Grouped.{grouping}
use Rattle.x509_general_names.proofs.information_access.lent.Goals as goal

pub loop-access-preserved : goal.loop-access-preserved
loop-access-preserved g c = λ q. grind (arith, take_at_read, grouping, c.loop-access.invariant q, c.in_ok-add_to_group.ensures.ok q)
