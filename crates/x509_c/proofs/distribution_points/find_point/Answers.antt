-- The point that stands there, with its names.
use Rattle.std.proofs.Common.{◌≡◌, ◌<◌, List, length, map, get_or, ap, sym, subst, refl, inl, arith, ◌∙◌}
use Rattle.std.proofs.lemmas.List.{get_or-map, length-map}
use Rattle.x509_general_names.specs.DistributionPoints.{Point, point_of}
use Rattle.x509_general_names.specs.GeneralName.{GeneralNameValue}
use Rattle.x509_c.specs.DistributionPoints.{ShowsPoint}
use Rattle.x509_c.specs.GeneralNames.{IsGeneralNameRow}
use Rattle.x509_c.specs.Rows.{RowsShow}
use Rattle.x509_c.proofs.distribution_points.find_point.Goals as goal

pub returns : goal.returns
returns c =
    let points = c.args.points.now in
    let k = c.args.position in
    let point = c.index-points-position.result in
    let within : k < length points = omega (arith, c.if-position-points.false) in
    let there : (none : Point) → get_or (map point_of points) k none ≡ point_of point = λ none. get_or-map point_of points k point none within ∙ ap point_of (sym c.index-points-position.is) in
    let own : ShowsPoint (point_of point) c.point_row.result c.put_rows.new.rows c.put_rows-2.new.rows = record {
      fields = c.point_row.ensures;
      name_rows = subst (λ (xs : List GeneralNameValue). RowsShow IsGeneralNameRow c.put_rows.new.rows xs) c.point_names.ensures.shown c.put_rows.ensures;
      issuer_rows = subst (λ (xs : List GeneralNameValue). RowsShow IsGeneralNameRow c.put_rows-2.new.rows xs) c.issuer_names.ensures.shown c.put_rows-2.ensures;
    } in
    record {
      found = inl (refl, omega (arith, within, length-map points point_of), λ none. subst (λ (p : Point). ShowsPoint p c.point_row.result c.put_rows.new.rows c.put_rows-2.new.rows) (sym (there none)) own);
      kept = λ other. absurd (other refl);
    }
