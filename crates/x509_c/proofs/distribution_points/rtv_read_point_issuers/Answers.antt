-- The names of the points that were read, or why there are none.
use Rattle.std.proofs.Common.{◌≡◌, List, [], Option, None, Some, map, refl, true}
use Rattle.x509_der.specs.Promises.{option_view}
use Rattle.x509_general_names.specs.DistributionPoints.{Point, crl_distribution_points, point_of}
use Rattle.x509_general_names.specs.GeneralName.{general_name_of}
use Rattle.x509_general_names.specs.ImplicitNames.{names_of}
use Rattle.x509_general_names.specs.declared.distribution_points.CRLDistributionPoint.{CRLDistributionPoint}
use Rattle.x509_general_names.specs.declared.general_name.GeneralName.{GeneralName}
use Rattle.x509_c.specs.DistributionPoints.{IsPointNameRow}
use Rattle.x509_c.specs.Options.{there_or}
use Rattle.x509_c.proofs.Telling.{tells_items, tells_refused}
use Rattle.x509_c.proofs.distribution_points.rtv_read_point_issuers.Goals as goal

-- those in memory
held : (names : Option (List GeneralName)) → map general_name_of (there_or [] names) ≡ there_or [] (option_view names_of names)
held None = refl
held (Some names) = refl

pub returns-in-Ok : goal.returns-in-Ok
returns-in-Ok c = tells_items true _ crl_distribution_points c.args.value.now IsPointNameRow (λ read. read) (λ (point : Point). there_or [] point.issuer) point_of general_name_of (λ (p : CRLDistributionPoint). there_or [] p.crl_issuer) (λ p. held p.crl_issuer) _ _ _ _ c.args.at.now _ _ _ _ c.in-Ok.ensures c.as_slice-read.ensures refl c.tell_items.ensures

pub returns-in-Err : goal.returns-in-Err
returns-in-Err c = tells_refused true _ crl_distribution_points c.args.value.now _ _ c.in-Err.refusal c.args.at.now _ _ c.in-Err.ensures (refl, refl) c.refused.ensures.at c.refused.ensures.status
