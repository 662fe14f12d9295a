-- The names that are read are counted and shown.
use Rattle.std.proofs.Common.{List, length, map, ap, sym, subst, refl, true, ◌∙◌}
use Rattle.std.proofs.lemmas.List.{length-map}
use Rattle.x509_general_names.specs.declared.general_name.GeneralName.{GeneralName}
use Rattle.x509_general_names.specs.AlternativeNames.{general_names, subject_names_of}
use Rattle.x509_general_names.specs.GeneralName.{general_name_of}
use Rattle.x509_c.specs.GeneralNames.{IsGeneralNameRow}
use Rattle.x509_c.specs.Rows.{CountsAndShows, RowsShow}
use Rattle.x509_c.proofs.Telling.{tells_read, tells_refused}
use Rattle.x509_c.proofs.general_names.rtv_read_general_names.Goals as goal

pub returns-in-Ok : goal.returns-in-Ok
returns-in-Ok c =
    let slice = c.as_slice-read.ensures in
    let shown : CountsAndShows IsGeneralNameRow c.put_rows.new.rows (length c.as_slice-read.result.now) (subject_names_of c.in-Ok.read) = record {
      count = ap (λ (names : List GeneralName). length names) slice ∙ sym (length-map c.in-Ok.read.general_names general_name_of);
      shown = subst (λ (names : List GeneralName). RowsShow IsGeneralNameRow c.put_rows.new.rows (map general_name_of names)) slice c.put_rows.ensures;
    } in
    tells_read true _ general_names c.args.value.now _ _ _ c.args.at.now c.in-Ok.ensures shown

pub returns-in-Err : goal.returns-in-Err
returns-in-Err c = tells_refused true _ general_names c.args.value.now _ _ c.in-Err.refusal c.args.at.now _ _ c.in-Err.ensures (refl, refl) c.refused.ensures.at c.refused.ensures.status
