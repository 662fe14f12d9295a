-- The accesses that are read are counted and shown.
use Rattle.std.proofs.Common.{List, length, map, ap, sym, subst, refl, true, ◌∙◌}
use Rattle.std.proofs.lemmas.List.{length-map}
use Rattle.x509_general_names.specs.declared.information_access.AccessDescription.{AccessDescription}
use Rattle.x509_general_names.specs.InformationAccess.{access_of, authority_accesses_of, information_access}
use Rattle.x509_c.specs.Authorities.{IsAccessRow, ShowsAccesses}
use Rattle.x509_c.specs.Rows.{RowsShow}
use Rattle.x509_c.proofs.Telling.{tells_read, tells_refused}
use Rattle.x509_c.proofs.authorities.rtv_read_accesses.Goals as goal

pub returns-in-Ok : goal.returns-in-Ok
returns-in-Ok c =
    let slice = c.as_slice-read.ensures in
    let shown : ShowsAccesses c.put_rows.new.rows (length c.as_slice-read.result.now) (authority_accesses_of c.in-Ok.read) = record {
      count = ap (λ (xs : List AccessDescription). length xs) slice ∙ sym (length-map c.in-Ok.read.accessdescs access_of);
      rows = subst (λ (xs : List AccessDescription). RowsShow IsAccessRow c.put_rows.new.rows (map access_of xs)) slice c.put_rows.ensures;
    } in
    tells_read true _ information_access c.args.value.now _ _ _ c.args.at.now c.in-Ok.ensures shown

pub returns-in-Err : goal.returns-in-Err
returns-in-Err c = tells_refused true _ information_access c.args.value.now _ _ c.in-Err.refusal c.args.at.now _ _ c.in-Err.ensures (refl, refl) c.refused.ensures.at c.refused.ensures.status
