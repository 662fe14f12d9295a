-- The number that was read, or why there is none.
use Rattle.std.proofs.Common.{refl, false}
use Rattle.x509_values.specs.InhibitAnyPolicy.{inhibit_any_policy}
use Rattle.x509_c.proofs.Telling.{tells_read, tells_refused}
use Rattle.x509_c.proofs.policy_rules.rtv_read_inhibit_any_policy.Goals as goal

pub returns-in-Ok : goal.returns-in-Ok
returns-in-Ok c = tells_read false _ inhibit_any_policy c.args.value.now _ _ _ c.args.at.now c.in-Ok.ensures refl

pub returns-in-Err : goal.returns-in-Err
returns-in-Err c = tells_refused false _ inhibit_any_policy c.args.value.now _ _ c.in-Err.refusal c.args.at.now _ _ c.in-Err.ensures refl c.refused.ensures.at c.refused.ensures.status
