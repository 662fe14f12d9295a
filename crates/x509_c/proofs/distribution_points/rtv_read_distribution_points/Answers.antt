-- The points that are read are counted and shown.
use Rattle.std.proofs.Common.{List, length, map, ap, sym, subst, refl, true, ◌∙◌}
use Rattle.std.proofs.lemmas.List.{length-map}
use Rattle.x509_general_names.specs.DistributionPoints.{crl_distribution_points, point_of}
use Rattle.x509_general_names.specs.declared.distribution_points.CRLDistributionPoint.{CRLDistributionPoint}
use Rattle.x509_c.specs.DistributionPoints.{IsPointRow}
use Rattle.x509_c.specs.Rows.{CountsAndShows, RowsShow}
use Rattle.x509_c.proofs.Telling.{tells_read, tells_refused}
use Rattle.x509_c.proofs.distribution_points.rtv_read_distribution_points.Goals as goal

pub returns-in-Ok : goal.returns-in-Ok
returns-in-Ok c =
    let slice = c.as_slice-read.ensures in
    let shown : CountsAndShows IsPointRow c.put_rows.new.rows (length c.as_slice-read.result.now) (map point_of c.in-Ok.read.points) = record {
      count = ap (λ (xs : List CRLDistributionPoint). length xs) slice ∙ sym (length-map c.in-Ok.read.points point_of);
      shown = subst (λ (xs : List CRLDistributionPoint). RowsShow IsPointRow c.put_rows.new.rows (map point_of xs)) slice c.put_rows.ensures;
    } in
    tells_read true _ crl_distribution_points c.args.value.now _ _ _ c.args.at.now c.in-Ok.ensures shown

pub returns-in-Err : goal.returns-in-Err
returns-in-Err c = tells_refused true _ crl_distribution_points c.args.value.now _ _ c.in-Err.refusal c.args.at.now _ _ c.in-Err.ensures (refl, refl) c.refused.ensures.at c.refused.ensures.status
