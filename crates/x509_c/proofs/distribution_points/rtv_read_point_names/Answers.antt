-- The names of the points that were read, or why there are none.
use Rattle.std.proofs.Common.{◌≡◌, Option, None, Some, map, refl, true}
use Rattle.x509_der.specs.Promises.{option_view}
use Rattle.x509_general_names.specs.DistributionPointName.{point_name_of}
use Rattle.x509_general_names.specs.DistributionPoints.{Point, crl_distribution_points, point_of}
use Rattle.x509_general_names.specs.GeneralName.{general_name_of}
use Rattle.x509_general_names.specs.declared.distribution_point_name.DistributionPointName.{DistributionPointName}
use Rattle.x509_general_names.specs.declared.distribution_point_name.DistributionPointName.TheVariants as variants
use Rattle.x509_general_names.specs.declared.distribution_points.CRLDistributionPoint.{CRLDistributionPoint}
use Rattle.x509_c.specs.DistributionPoints.{IsPointNameRow, full_names, names_held}
use Rattle.x509_c.proofs.Telling.{tells_items, tells_refused}
use Rattle.x509_c.proofs.distribution_points.rtv_read_point_names.Goals as goal

-- those in memory
held : (name : Option DistributionPointName) → map general_name_of (names_held name) ≡ full_names (option_view point_name_of name)
held None = refl
held (Some (variants.FullName names)) = refl
held (Some (variants.NameRelativeToCRLIssuer name)) = refl

pub returns-in-Ok : goal.returns-in-Ok
returns-in-Ok c = tells_items true _ crl_distribution_points c.args.value.now IsPointNameRow (λ read. read) (λ (point : Point). full_names point.name) point_of general_name_of (λ (p : CRLDistributionPoint). names_held p.distribution_point) (λ p. held p.distribution_point) _ _ _ _ c.args.at.now _ _ _ _ c.in-Ok.ensures c.as_slice-read.ensures refl c.tell_items.ensures

pub returns-in-Err : goal.returns-in-Err
returns-in-Err c = tells_refused true _ crl_distribution_points c.args.value.now _ _ c.in-Err.refusal c.args.at.now _ _ c.in-Err.ensures (refl, refl) c.refused.ensures.at c.refused.ensures.status
