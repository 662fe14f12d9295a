-- Where the entries of the list that was read stand, or why there are none.
use Rattle.std.proofs.Common.{refl, true}
use Rattle.x509_lists.specs.CertificateList.{certificate_list}
use Rattle.x509_c.proofs.Telling.{tells_read, tells_refused}
use Rattle.x509_c.proofs.entries.rtv_read_entries.Goals as goal

pub returns-in-Ok : goal.returns-in-Ok
returns-in-Ok c = tells_read true _ certificate_list c.args.der.now _ _ _ c.args.at.now c.in-Ok.ensures (record { octets = c.as_bytes.ensures.holds; count = c.len.ensures })

pub returns-in-Err : goal.returns-in-Err
returns-in-Err c = tells_refused true _ certificate_list c.args.der.now _ _ c.in-Err.refusal c.args.at.now _ _ c.in-Err.ensures (refl, refl) c.refused.ensures.at c.refused.ensures.status
