-- Where lists of revoked certificates are found (RFC 5280, 4.2.1.13).
use Rattle.std.specs.Prelude.{ℕ, ◌+◌, List, Option, map, sum_by}
use Rattle.x509_der.specs.Laws.{IsMarkedElement}
use Rattle.x509_der.specs.Plan.{◌>>=◌, give, soft, context, run, to_end}
use Rattle.x509_der.specs.Promises.{ended_early, option_view, option_heads}
use Rattle.x509_der.proofs.Marking.{marked}
use Rattle.x509_fields.specs.Errors.{is_x509_memory}
use Rattle.x509_fields.specs.Fields.{Field, sequence, as_x509_renames}
use Rattle.x509_general_names.specs.declared.distribution_points.CRLDistributionPoint.{CRLDistributionPoint}
use Rattle.x509_general_names.specs.declared.distribution_points.CRLDistributionPoints.{CRLDistributionPoints}
use Rattle.x509_general_names.specs.AlternativeNames.{general_names_heads}
use Rattle.x509_fields.specs.Lists.{list_error}
use Rattle.x509_general_names.specs.DistributionPointName.{PointName, point_name_of, distribution_point_name, distribution_point_name_heads, distribution_point_name_laws}
use Rattle.x509_general_names.specs.GeneralName.{GeneralNameValue}
use Rattle.x509_general_names.specs.ImplicitNames.{names_of, implicit_some_names, implicit_some_names_laws, implicit_some_names_away}
use Rattle.x509_general_names.specs.ReasonFlags.{reason_flags_of, implicit_reasons, implicit_reasons_laws, implicit_reasons_away}

-- ---- the values

pub record Point : Type 0 where
  pub name : Option PointName
  pub reasons : Option ℕ
  pub issuer : Option (List GeneralNameValue)

abbrev pub point_of : CRLDistributionPoint → Point
point_of p = record {
  name = option_view point_name_of p.distribution_point;
  reasons = option_view reason_flags_of p.reasons;
  issuer = option_view names_of p.crl_issuer;
}

abbrev pub points_of : CRLDistributionPoints → List Point
points_of p = map point_of p.points

-- ---- the grammar

-- DistributionPoint ::= SEQUENCE {
--     distributionPoint  [0]  DistributionPointName OPTIONAL,
--     reasons            [1]  ReasonFlags OPTIONAL,
--     cRLIssuer          [2]  GeneralNames OPTIONAL }
unfoldable pub crl_distribution_point : Field Point
crl_distribution_point = sequence do
  name ← soft (context 0) distribution_point_name
  reasons ← soft (context 1) (implicit_reasons 1)
  issuer ← soft (context 2) (implicit_some_names 2)
  give (record { name = name; reasons = reasons; issuer = issuer })

-- CRLDistributionPoints ::= SEQUENCE SIZE (1..MAX) OF DistributionPoint; it may be empty
unfoldable pub crl_distribution_points : Field (List Point)
crl_distribution_points = sequence (to_end (ended_early list_error) (run crl_distribution_point))

-- ---- heads

abbrev pub point_heads : Point → ℕ
point_heads p = 1 + option_heads distribution_point_name_heads p.name + option_heads (λ _. 1) p.reasons + option_heads general_names_heads p.issuer

abbrev pub points_heads : List Point → ℕ
points_heads points = 1 + sum_by point_heads points

-- ---- laws

pub crl_distribution_point_laws : IsMarkedElement is_x509_memory crl_distribution_point
unfolding crl_distribution_point
crl_distribution_point_laws = search (marked, as_x509_renames, distribution_point_name_laws, implicit_reasons_laws, implicit_reasons_away, implicit_some_names_laws, implicit_some_names_away) depth 40

pub crl_distribution_points_laws : IsMarkedElement is_x509_memory crl_distribution_points
unfolding crl_distribution_points
crl_distribution_points_laws = search (marked, as_x509_renames, crl_distribution_point_laws) depth 40
