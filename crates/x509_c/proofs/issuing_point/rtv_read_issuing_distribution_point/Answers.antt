-- What was read, or why there is nothing.
use Rattle.std.proofs.Common.{List, refl, true, subst}
use Rattle.x509_general_names.specs.GeneralName.{GeneralNameValue}
use Rattle.x509_general_names.specs.IssuingDistributionPoint.{issuing_distribution_point, issuing_point_of}
use Rattle.x509_c.specs.GeneralNames.{IsGeneralNameRow}
use Rattle.x509_c.specs.IssuingPoint.{ShowsIssuingPoint}
use Rattle.x509_c.specs.Rows.{RowsShow}
use Rattle.x509_c.proofs.Telling.{tells_read, tells_refused}
use Rattle.x509_c.proofs.issuing_point.rtv_read_issuing_distribution_point.Goals as goal

pub returns-in-Ok : goal.returns-in-Ok
returns-in-Ok c =
    let shown : ShowsIssuingPoint c.issuing_point_row.result c.put_rows.new.rows (issuing_point_of c.in-Ok.read) = record {
      fields = c.issuing_point_row.ensures;
      name_rows = subst (λ (names : List GeneralNameValue). RowsShow IsGeneralNameRow c.put_rows.new.rows names) c.point_names.ensures c.put_rows.ensures;
    } in
    tells_read true _ issuing_distribution_point c.args.value.now _ _ _ c.args.at.now c.in-Ok.ensures shown

pub returns-in-Err : goal.returns-in-Err
returns-in-Err c = tells_refused true _ issuing_distribution_point c.args.value.now _ _ c.in-Err.refusal c.args.at.now _ _ c.in-Err.ensures (refl, refl) c.refused.ensures.at c.refused.ensures.status
