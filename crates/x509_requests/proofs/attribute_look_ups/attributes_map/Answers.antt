use Rattle.std.proofs.Common.{sym, ap, ◌∙◌, refl, inr, is_some}
use Rattle.std.specs.HashMap.{get}
use Rattle.x509_extensions.proofs.Mapped.{distinct-more, distinct-not, map-more-item}
use Rattle.x509_fields.specs.Groups.{oid_eq}
use Rattle.x509_extensions.specs.Lookups.{distinct_after}
use Rattle.x509_requests.proofs.attribute_look_ups.attributes_map.Goals as goal

pub loop-attribute-init : goal.loop-attribute-init
unfolding distinct_after
loop-attribute-init g c = record { distinct = refl; entries = λ q. rw c.with_hasher-map.ensures.empty refl }

pub returns-then-is_some : goal.returns-then-is_some
returns-then-is_some g c =
    let map = get oid_eq c.loop-attribute.map in
    let old = sym (ap is_some c.in-Ok.ensures.old) ∙ (sym c.is_some.ensures ∙ c.if-is_some.true) in
    let here = ap (λ x. is_some (map x.oid)) (sym c.attribute-item.is) ∙ old in
    record { distinct = tt; entries = tt; refused = inr (refl, distinct-not (λ a. a.oid) map c.args.attributes.now c.loop-attribute.attribute-index c.attribute-item.result c.loop-attribute-test.true c.loop-attribute.invariant.entries here) }

pub loop-attribute-preserved : goal.loop-attribute-preserved
loop-attribute-preserved g c =
    let k = c.loop-attribute.attribute-index in
    let attributes = c.args.attributes.now in
    let item = c.attribute-item.result in
    let map = get oid_eq c.loop-attribute.map in
    let known = c.loop-attribute.invariant.entries in
    let new = sym (ap is_some c.in-Ok.ensures.old) ∙ (sym c.is_some.ensures ∙ c.if-is_some.false) in
    let here = ap (λ x. is_some (map x.oid)) (sym c.attribute-item.is) ∙ new in
    record {
      distinct = distinct-more (λ a. a.oid) map attributes k item c.loop-attribute-test.true c.loop-attribute.invariant.distinct known here;
      entries = map-more-item (λ a. a.oid) map (get oid_eq c.insert.new.self) attributes k item _ c.loop-attribute-test.true c.attribute-item.is refl known c.in-Ok.ensures.updates.0 new;
    }
