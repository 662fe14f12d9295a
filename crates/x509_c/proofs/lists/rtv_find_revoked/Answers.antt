-- What was found on the list that was read, or why there is none.
use Rattle.std.proofs.Common.{refl, true}
use Rattle.x509_lists.specs.CertificateList.{certificate_list}
use Rattle.x509_c.proofs.Telling.{tells_looked, tells_refused}
use Rattle.x509_c.proofs.lists.rtv_find_revoked.Goals as goal

pub returns-in-Ok : goal.returns-in-Ok
returns-in-Ok c = tells_looked true _ certificate_list c.args.der.now _ _ _ c.args.at.now _ c.in-Ok.ensures c.look_up.ensures.found c.look_up.ensures.kept

pub returns-in-Err : goal.returns-in-Err
returns-in-Err c = tells_refused true _ certificate_list c.args.der.now _ _ c.in-Err.refusal c.args.at.now _ _ c.in-Err.ensures (refl, refl) c.refused.ensures.at c.refused.ensures.status
