-- What a list of revoked certificates covers (RFC 5280, 5.2.5).
use Rattle.std.specs.Prelude.{false, ℕ, ◌+◌, Bool, Option, unwrap_or, if◌then◌else◌}
use Rattle.x509_der.specs.Laws.{IsMarkedElement}
use Rattle.x509_der.specs.Plan.{◌>>=◌, give, soft, context}
use Rattle.x509_der.specs.Promises.{option_view, option_heads}
use Rattle.x509_der.proofs.Marking.{marked}
use Rattle.x509_fields.specs.Errors.{is_x509_memory}
use Rattle.x509_fields.specs.Fields.{Field, lifted, sequence, as_x509_renames}
use Rattle.x509_general_names.specs.declared.issuing_distribution_point.IssuingDistributionPoint.{IssuingDistributionPoint}
use Rattle.x509_general_names.specs.DistributionPointName.{PointName, point_name_of, distribution_point_name, distribution_point_name_heads, distribution_point_name_laws}
use Rattle.x509_general_names.specs.ImplicitBool.{implicit_bool, implicit_bool_laws, implicit_bool_away}
use Rattle.x509_general_names.specs.ReasonFlags.{reason_flags_of, implicit_reasons, implicit_reasons_laws, implicit_reasons_away}

-- ---- the value

pub record IssuingPoint : Type 0 where
  pub name : Option PointName
  pub user_certs : Bool
  pub ca_certs : Bool
  pub reasons : Option ℕ
  pub indirect_crl : Bool
  pub attribute_certs : Bool

abbrev pub issuing_point_of : IssuingDistributionPoint → IssuingPoint
issuing_point_of p = record {
  name = option_view point_name_of p.distribution_point;
  user_certs = p.only_contains_user_certs;
  ca_certs = p.only_contains_ca_certs;
  reasons = option_view reason_flags_of p.only_some_reasons;
  indirect_crl = p.indirect_crl;
  attribute_certs = p.only_contains_attribute_certs;
}

-- ---- the grammar

-- a flag that is absent is false
abbrev pub flag : Option Bool → Bool
flag truth = unwrap_or truth false

-- IssuingDistributionPoint ::= SEQUENCE {
--     distributionPoint           [0]  DistributionPointName OPTIONAL,
--     onlyContainsUserCerts       [1]  BOOLEAN DEFAULT FALSE,
--     onlyContainsCACerts         [2]  BOOLEAN DEFAULT FALSE,
--     onlySomeReasons             [3]  ReasonFlags OPTIONAL,
--     indirectCRL                 [4]  BOOLEAN DEFAULT FALSE,
--     onlyContainsAttributeCerts  [5]  BOOLEAN DEFAULT FALSE }
unfoldable pub issuing_distribution_point : Field IssuingPoint
issuing_distribution_point = sequence do
  name ← soft (context 0) distribution_point_name
  user_certs ← soft (context 1) (lifted (implicit_bool 1))
  ca_certs ← soft (context 2) (lifted (implicit_bool 2))
  reasons ← soft (context 3) (implicit_reasons 3)
  indirect_crl ← soft (context 4) (lifted (implicit_bool 4))
  attribute_certs ← soft (context 5) (lifted (implicit_bool 5))
  give (record {
    name = name;
    user_certs = flag user_certs;
    ca_certs = flag ca_certs;
    reasons = reasons;
    indirect_crl = flag indirect_crl;
    attribute_certs = flag attribute_certs;
  })

-- ---- heads: where false is the value, the BOOLEAN may be absent

abbrev pub flag_heads : Bool → ℕ
flag_heads truth = if truth then 1 else 0

abbrev pub issuing_point_heads : IssuingPoint → ℕ
issuing_point_heads p =
    1 + option_heads distribution_point_name_heads p.name + flag_heads p.user_certs + flag_heads p.ca_certs
    + option_heads (λ _. 1) p.reasons + flag_heads p.indirect_crl + flag_heads p.attribute_certs

-- ---- laws

pub issuing_distribution_point_laws : IsMarkedElement is_x509_memory issuing_distribution_point
unfolding issuing_distribution_point
issuing_distribution_point_laws = search (marked, as_x509_renames, distribution_point_name_laws, implicit_bool_laws, implicit_bool_away, implicit_reasons_laws, implicit_reasons_away) depth 60
