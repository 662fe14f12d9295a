-- The number that was read, or why there is none.
use Rattle.std.proofs.Common.{refl, false}
use Rattle.x509_values.specs.CrlNumber.{crl_number}
use Rattle.x509_c.proofs.Telling.{tells_read, tells_refused}
use Rattle.x509_c.proofs.list_values.rtv_read_crl_number.Goals as goal

pub returns-in-Ok : goal.returns-in-Ok
returns-in-Ok c = tells_read false _ crl_number c.args.value.now _ _ _ c.args.at.now c.in-Ok.ensures c.as_bytes.ensures.digits

pub returns-in-Err : goal.returns-in-Err
returns-in-Err c = tells_refused false _ crl_number c.args.value.now _ _ c.in-Err.refusal c.args.at.now _ _ c.in-Err.ensures refl c.refused.ensures.at c.refused.ensures.status
