-- The mappings that are read are counted and shown.
use Rattle.std.proofs.Common.{List, length, map, ap, sym, subst, refl, true, ◌∙◌}
use Rattle.std.proofs.lemmas.List.{length-map}
use Rattle.x509_values.specs.declared.policy_mapping.PolicyMapping.{PolicyMapping}
use Rattle.x509_values.specs.PolicyMapping.{policy_mappings, policy_mappings_of, policy_mapping_of}
use Rattle.x509_c.specs.PolicyRules.{IsPolicyMappingRow}
use Rattle.x509_c.specs.Rows.{CountsAndShows, RowsShow}
use Rattle.x509_c.proofs.Telling.{tells_read, tells_refused}
use Rattle.x509_c.proofs.policy_rules.rtv_read_policy_mappings.Goals as goal

pub returns-in-Ok : goal.returns-in-Ok
returns-in-Ok c =
    let slice = c.as_slice-read.ensures in
    let shown : CountsAndShows IsPolicyMappingRow c.put_rows.new.rows (length c.as_slice-read.result.now) (policy_mappings_of c.in-Ok.read) = record {
      count = ap (λ (xs : List PolicyMapping). length xs) slice ∙ sym (length-map c.in-Ok.read.mappings policy_mapping_of);
      shown = subst (λ (xs : List PolicyMapping). RowsShow IsPolicyMappingRow c.put_rows.new.rows (map policy_mapping_of xs)) slice c.put_rows.ensures;
    } in
    tells_read true _ policy_mappings c.args.value.now _ _ _ c.args.at.now c.in-Ok.ensures shown

pub returns-in-Err : goal.returns-in-Err
returns-in-Err c = tells_refused true _ policy_mappings c.args.value.now _ _ c.in-Err.refusal c.args.at.now _ _ c.in-Err.ensures (refl, refl) c.refused.ensures.at c.refused.ensures.status
