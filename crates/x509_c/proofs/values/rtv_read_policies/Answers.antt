-- The policies that are read are counted and shown.
use Rattle.std.proofs.Common.{List, length, map, ap, sym, subst, refl, true, ◌∙◌}
use Rattle.std.proofs.lemmas.List.{length-map}
use Rattle.x509_values.specs.declared.policies.PolicyInformation.{PolicyInformation}
use Rattle.x509_values.specs.Policies.{policies, policies_of, policy_of}
use Rattle.x509_c.specs.Values.{IsPolicyRow}
use Rattle.x509_c.specs.Rows.{CountsAndShows, RowsShow}
use Rattle.x509_c.proofs.Telling.{tells_read, tells_refused}
use Rattle.x509_c.proofs.values.rtv_read_policies.Goals as goal

pub returns-in-Ok : goal.returns-in-Ok
returns-in-Ok c =
    let slice = c.as_slice-read.ensures in
    let shown : CountsAndShows IsPolicyRow c.put_rows.new.rows (length c.as_slice-read.result.now) (policies_of c.in-Ok.read) = record {
      count = ap (λ (xs : List PolicyInformation). length xs) slice ∙ sym (length-map c.in-Ok.read.policies policy_of);
      shown = subst (λ (xs : List PolicyInformation). RowsShow IsPolicyRow c.put_rows.new.rows (map policy_of xs)) slice c.put_rows.ensures;
    } in
    tells_read true _ policies c.args.value.now _ _ _ c.args.at.now c.in-Ok.ensures shown

pub returns-in-Err : goal.returns-in-Err
returns-in-Err c = tells_refused true _ policies c.args.value.now _ _ c.in-Err.refusal c.args.at.now _ _ c.in-Err.ensures (refl, refl) c.refused.ensures.at c.refused.ensures.status
