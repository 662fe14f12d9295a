-- The constraints that were read, or why there are none.
use Rattle.std.proofs.Common.{List, refl, true, subst}
use Rattle.x509_general_names.specs.GeneralName.{GeneralNameValue}
use Rattle.x509_general_names.specs.NameConstraints.{constraints_of, name_constraints}
use Rattle.x509_c.specs.GeneralNames.{IsGeneralNameRow}
use Rattle.x509_c.specs.NameConstraints.{ShowsNameConstraints}
use Rattle.x509_c.specs.Rows.{RowsShow}
use Rattle.x509_c.proofs.Telling.{tells_read, tells_refused}
use Rattle.x509_c.proofs.name_constraints.rtv_read_name_constraints.Goals as goal

pub returns-in-Ok : goal.returns-in-Ok
returns-in-Ok c =
    let shown : ShowsNameConstraints c.name_constraints_row.result c.put_rows.new.rows c.put_rows-in-Ok.new.rows (constraints_of c.in-Ok.read) = record {
      fields = c.name_constraints_row.ensures;
      permitted_names = subst (λ (xs : List GeneralNameValue). RowsShow IsGeneralNameRow c.put_rows.new.rows xs) c.permitted.ensures c.put_rows.ensures;
      excluded_names = subst (λ (xs : List GeneralNameValue). RowsShow IsGeneralNameRow c.put_rows-in-Ok.new.rows xs) c.excluded.ensures c.put_rows-in-Ok.ensures;
    } in
    tells_read true _ name_constraints c.args.value.now _ _ _ c.args.at.now c.in-Ok.ensures shown

pub returns-in-Err : goal.returns-in-Err
returns-in-Err c = tells_refused true _ name_constraints c.args.value.now _ _ c.in-Err.refusal c.args.at.now _ _ c.in-Err.ensures (refl, refl, refl) c.refused.ensures.at c.refused.ensures.status
