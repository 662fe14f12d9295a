-- The request that was read, or why there is none.
use Rattle.std.proofs.Common.{List, map, refl, true, subst}
use Rattle.x509_requests.specs.CriAttribute.{attribute_of}
use Rattle.x509_requests.specs.Request.{certification_request_of}
use Rattle.x509_requests.specs.declared.cri_attribute.X509CriAttribute.{X509CriAttribute}
use Rattle.x509_c.specs.Requests.{IsRequestAttributeRow, ShowsRequest, request_by}
use Rattle.x509_c.specs.Rows.{RowsShow}
use Rattle.x509_c.proofs.Telling.{tells_read, tells_refused}
use Rattle.x509_c.proofs.requests.rtv_read_request.Goals as goal

pub returns-in-Ok : goal.returns-in-Ok
returns-in-Ok c =
    let shown : ShowsRequest c.request_row.result c.put_rows.new.rows (certification_request_of c.in-Ok.read) c.in-Ok.rest.now = record {
      fields = c.request_row.ensures;
      attributes = subst (λ (xs : List X509CriAttribute). RowsShow IsRequestAttributeRow c.put_rows.new.rows (map attribute_of xs)) c.attributes.ensures c.put_rows.ensures;
    } in
    tells_read true _ (request_by c.args.strict) c.args.der.now _ _ _ c.args.at.now c.in-Ok.ensures shown

pub returns-in-Err : goal.returns-in-Err
returns-in-Err c = tells_refused true _ (request_by c.args.strict) c.args.der.now _ _ c.in-Err.refusal c.args.at.now _ _ c.in-Err.ensures (refl, refl) c.refused.ensures.at c.refused.ensures.status
