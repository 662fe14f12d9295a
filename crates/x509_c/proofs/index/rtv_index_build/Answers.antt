-- The index of the list that was read, or why there is none.
use Rattle.std.proofs.Common.{List, map, refl, true, subst}
use Rattle.x509_lists.specs.CertificateList.{certificate_list}
use Rattle.x509_lists.specs.FindRevoked.{serial_numbers}
use Rattle.x509_lists.specs.RevokedCertificate.{revoked_of}
use Rattle.x509_lists.specs.declared.revoked_certificate.RevokedCertificate.{RevokedCertificate}
use Rattle.x509_c.specs.Index.{ShowsIndex}
use Rattle.x509_c.proofs.Telling.{tells_read, tells_refused}
use Rattle.x509_c.proofs.index.rtv_index_build.Goals as goal

pub returns-in-Ok : goal.returns-in-Ok
returns-in-Ok c =
    let shown = subst (λ (xs : List RevokedCertificate). ShowsIndex c.args.rows.now c.put_index.new.rows c.put_index.result (serial_numbers (map revoked_of xs))) c.as_slice.ensures c.put_index.ensures in
    tells_read true _ certificate_list c.args.der.now _ _ _ c.args.at.now c.in-Ok.ensures shown

pub returns-in-Err : goal.returns-in-Err
returns-in-Err c = tells_refused true _ certificate_list c.args.der.now _ _ c.in-Err.refusal c.args.at.now _ _ c.in-Err.ensures (refl, refl) c.refused.ensures.at c.refused.ensures.status
