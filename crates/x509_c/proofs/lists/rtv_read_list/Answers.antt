-- The list that was read, or why there is none.
use Rattle.std.proofs.Common.{List, map, refl, true, subst}
use Rattle.x509_extensions.specs.Extension.{extension_of}
use Rattle.x509_extensions.specs.declared.extension.X509Extension.{X509Extension}
use Rattle.x509_lists.specs.CertificateList.{list_of}
use Rattle.x509_lists.specs.RevokedCertificate.{revoked_of}
use Rattle.x509_lists.specs.declared.revoked_certificate.RevokedCertificate.{RevokedCertificate}
use Rattle.x509_c.specs.Extensions.{IsExtensionRow}
use Rattle.x509_c.specs.Lists.{IsRevokedRow, ShowsList, list_by}
use Rattle.x509_c.specs.Rows.{RowsShow}
use Rattle.x509_c.proofs.Telling.{tells_read, tells_refused}
use Rattle.x509_c.proofs.lists.rtv_read_list.Goals as goal

pub returns-in-Ok : goal.returns-in-Ok
returns-in-Ok c =
    let shown : ShowsList c.list_row.result c.put_rows.new.rows c.put_rows-in-Ok.new.rows (list_of c.in-Ok.read) c.in-Ok.rest.now = record {
      fields = c.list_row.ensures;
      revoked = subst (λ (xs : List RevokedCertificate). RowsShow IsRevokedRow c.put_rows.new.rows (map revoked_of xs)) c.as_slice.ensures c.put_rows.ensures;
      extensions = subst (λ (xs : List X509Extension). RowsShow IsExtensionRow c.put_rows-in-Ok.new.rows (map extension_of xs)) c.extensions.ensures c.put_rows-in-Ok.ensures;
    } in
    tells_read true _ (list_by c.args.strict) c.args.der.now _ _ _ c.args.at.now c.in-Ok.ensures shown

pub returns-in-Err : goal.returns-in-Err
returns-in-Err c = tells_refused true _ (list_by c.args.strict) c.args.der.now _ _ c.in-Err.refusal c.args.at.now _ _ c.in-Err.ensures (refl, refl, refl) c.refused.ensures.at c.refused.ensures.status
