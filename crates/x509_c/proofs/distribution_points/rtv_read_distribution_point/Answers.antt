-- The point that was read, or why there is none.
use Rattle.std.proofs.Common.{List, map, subst, refl, true}
use Rattle.x509_general_names.specs.DistributionPoints.{crl_distribution_points, point_of}
use Rattle.x509_general_names.specs.declared.distribution_points.CRLDistributionPoint.{CRLDistributionPoint}
use Rattle.x509_c.specs.DistributionPoints.{FindsPoint}
use Rattle.x509_c.proofs.Telling.{tells_looked, tells_refused}
use Rattle.x509_c.proofs.distribution_points.rtv_read_distribution_point.Goals as goal

pub returns-in-Ok : goal.returns-in-Ok
returns-in-Ok c =
    let found = subst (λ (xs : List CRLDistributionPoint). FindsPoint (map point_of xs) c.args.position c.find_point.new.point c.find_point.new.names c.find_point.new.issuer c.find_point.result) c.as_slice.ensures c.find_point.ensures.found in
    tells_looked true _ crl_distribution_points c.args.value.now _ _ _ c.args.at.now _ c.in-Ok.ensures found c.find_point.ensures.kept

pub returns-in-Err : goal.returns-in-Err
returns-in-Err c = tells_refused true _ crl_distribution_points c.args.value.now _ _ c.in-Err.refusal c.args.at.now _ _ c.in-Err.ensures (refl, refl, refl) c.refused.ensures.at c.refused.ensures.status
