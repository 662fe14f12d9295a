-- The constraints that were read, or why there are none.
use Rattle.std.proofs.Common.{refl, false}
use Rattle.x509_values.specs.PolicyConstraints.{policy_constraints}
use Rattle.x509_c.proofs.Telling.{tells_read, tells_refused}
use Rattle.x509_c.proofs.policy_rules.rtv_read_policy_constraints.Goals as goal

pub returns-in-Ok : goal.returns-in-Ok
returns-in-Ok c = tells_read false _ policy_constraints c.args.value.now _ _ _ c.args.at.now c.in-Ok.ensures c.policy_constraints_row.ensures

pub returns-in-Err : goal.returns-in-Err
returns-in-Err c = tells_refused false _ policy_constraints c.args.value.now _ _ c.in-Err.refusal c.args.at.now _ _ c.in-Err.ensures refl c.refused.ensures.at c.refused.ensures.status
