-- The uses that were read, or why there are none.
use Rattle.std.proofs.Common.{List, map, subst, refl, true}
use Rattle.x509_der.specs.Oid.{oid_bytes}
use Rattle.x509_der.specs.declared.oid.Oid.{Oid}
use Rattle.x509_values.specs.ExtendedKeyUsage.{extended_key_usage, usages_of}
use Rattle.x509_c.specs.Values.{AreOctets, ShowsUsages}
use Rattle.x509_c.specs.Rows.{RowsShow}
use Rattle.x509_c.proofs.Telling.{tells_read, tells_refused}
use Rattle.x509_c.proofs.values.rtv_read_extended_key_usage.Goals as goal

pub returns-in-Ok : goal.returns-in-Ok
returns-in-Ok c =
    let shown : ShowsUsages c.usages_row.result c.put_rows.new.rows (usages_of c.in-Ok.read) = record {
      fields = c.usages_row.ensures;
      others = subst (λ (xs : List Oid). RowsShow AreOctets c.put_rows.new.rows (map oid_bytes xs)) c.as_slice.ensures c.put_rows.ensures;
    } in
    tells_read true _ extended_key_usage c.args.value.now _ _ _ c.args.at.now c.in-Ok.ensures shown

pub returns-in-Err : goal.returns-in-Err
returns-in-Err c = tells_refused true _ extended_key_usage c.args.value.now _ _ c.in-Err.refusal c.args.at.now _ _ c.in-Err.ensures (refl, refl) c.refused.ensures.at c.refused.ensures.status
