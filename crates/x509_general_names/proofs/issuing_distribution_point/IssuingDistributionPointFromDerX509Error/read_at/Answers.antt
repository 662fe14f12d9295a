use Rattle.std.proofs.Common.{◌+◌, ◌-◌, ◌≤◌, min, length, ap, arith, rules}
use Rattle.std.proofs.Math.Bool.{and_assoc}
use Rattle.x509_der.specs.Fields.{next_of, soft_looks, CountedSoftBy}
use Rattle.x509_der.specs.Looks.{behind}
use Rattle.x509_der.specs.Place.{at}
use Rattle.x509_der.specs.Promises.{option_view, option_heads}
use Rattle.x509_der.specs.Reading.{AddsAtLeast}
use Rattle.x509_der.proofs.Steps.{marks_of_fields}
use Rattle.x509_general_names.specs.DistributionPointName.{point_name_of, distribution_point_name_heads}
use Rattle.x509_general_names.specs.IssuingDistributionPoint.{issuing_distribution_point}
use Rattle.x509_der.proofs.Steps.{one_more, field_few, field_adds, leaf_adds}
use Rattle.x509_general_names.proofs.Leaves.{flag_within}
use Rattle.x509_general_names.proofs.issuing_distribution_point.IssuingDistributionPointFromDerX509Error.read_at.Goals as goal

pub returns-clause-reads : goal.returns-clause-reads
unfolding issuing_distribution_point
returns-clause-reads g c =
    let user = c.soft_bool-fields.ensures in
    let ca = c.soft_bool-fields-2.ensures in
    let reasons = c.soft_reasons-fields.ensures.reads in
    let indirect = c.soft_bool-fields-3.ensures in
    let attribute = c.soft_bool-fields-4.ensures in
    let name = option_view point_name_of c.in_ok-fields.distribution_point in
    let next = next_of c.in_ok-fields.fields in
    let same = ap length c.of-fields.ensures.place in
    let counted : CountedSoftBy name next c.of-fields.new.tries c.soft.new.tries (next_of c.of-fields.result) = search rules in
    record {
      reads = search (rules, marks_of_fields);
      marks = search (rules, marks_of_fields, and_assoc);
      grows = search rules;
      count =
          let inside : length (behind (at c.args.place.now)) + length c.in_ok-contents.contents.bytes.now + 2 ≤ length (at c.args.place.now) = search rules in
          let spent = field_few _ _ _ _ _ counted in
          let few1 = one_more _ _ _ _ user.few in
          let few2 = one_more _ _ _ _ ca.few in
          let few3 = one_more _ _ _ _ reasons.few in
          let few4 = one_more _ _ _ _ indirect.few in
          let few5 = one_more _ _ _ _ attribute.few in
          omega (arith, inside, same, c.of-fields.ensures.tries.few, spent, few1, few2, few3, few4, few5);
      foreign = search rules;
      least =
          let looked : AddsAtLeast (min (length (next_of c.of-fields.result)) 1) c.args.tries.now c.of-fields.new.tries = λ short. let first = c.of-fields.ensures.tries.some short in omega (arith, same, first) in
          let told : AddsAtLeast (option_heads distribution_point_name_heads name - 1 + soft_looks name next) c.of-fields.new.tries c.soft.new.tries = search rules in
          let least0 = field_adds distribution_point_name_heads _ _ _ _ _ _ counted c.soft.ensures.grows looked told in
          let least1 = leaf_adds _ _ _ _ _ _ _ user.sizes user.grows least0 user.least in
          let least2 = leaf_adds _ _ _ _ _ _ _ ca.sizes ca.grows least1 ca.least in
          let least3 = leaf_adds _ _ _ _ _ _ _ reasons.sizes reasons.grows least2 reasons.least in
          let least4 = leaf_adds _ _ _ _ _ _ _ indirect.sizes indirect.grows least3 indirect.least in
          let least5 = leaf_adds _ _ _ _ _ _ _ attribute.sizes attribute.grows least4 attribute.least in
          let set1 = flag_within c.soft_bool-fields.result.1 _ c.unwrap_or.ensures in
          let set2 = flag_within c.soft_bool-fields-2.result.1 _ c.unwrap_or-2.ensures in
          let set3 = flag_within c.soft_bool-fields-3.result.1 _ c.unwrap_or-3.ensures in
          let set4 = flag_within c.soft_bool-fields-4.result.1 _ c.unwrap_or-4.ensures in
          λ short. let all = least5 short in omega (arith, all, set1, set2, set3, set4);
      there = search rules;
    }
