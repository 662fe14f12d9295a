-- The bits that were read, or why there are none.
use Rattle.std.proofs.Common.{refl, false, rules}
use Rattle.x509_values.specs.NsCertType.{ns_cert_type}
use Rattle.x509_c.proofs.Telling.{tells_read, tells_refused}
use Rattle.x509_c.proofs.netscape.rtv_read_ns_cert_type.Goals as goal

pub returns-in-Ok : goal.returns-in-Ok
returns-in-Ok c = tells_read false _ ns_cert_type c.args.value.now _ _ _ c.args.at.now c.in-Ok.ensures (search rules)

pub returns-in-Err : goal.returns-in-Err
returns-in-Err c = tells_refused false _ ns_cert_type c.args.value.now _ _ c.in-Err.refusal c.args.at.now _ _ c.in-Err.ensures refl c.refused.ensures.at c.refused.ensures.status
