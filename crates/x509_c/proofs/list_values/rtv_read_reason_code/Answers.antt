-- The reason that was read, or why there is none.
use Rattle.std.proofs.Common.{refl, false, rules}
use Rattle.x509_values.specs.ReasonCode.{reason_code}
use Rattle.x509_c.proofs.Telling.{tells_read, tells_refused}
use Rattle.x509_c.proofs.list_values.rtv_read_reason_code.Goals as goal

pub returns-in-Ok : goal.returns-in-Ok
returns-in-Ok c = tells_read false _ reason_code c.args.value.now _ _ _ c.args.at.now c.in-Ok.ensures (search rules)

pub returns-in-Err : goal.returns-in-Err
returns-in-Err c = tells_refused false _ reason_code c.args.value.now _ _ c.in-Err.refusal c.args.at.now _ _ c.in-Err.ensures refl c.refused.ensures.at c.refused.ensures.status
