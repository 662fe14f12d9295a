use Rattle.std.proofs.Common.{sym, ap, ◌∙◌, refl, inr, is_some}
use Rattle.std.specs.HashMap.{get}
use Rattle.x509_extensions.proofs.Mapped.{distinct-more, distinct-not, map-more-item}
use Rattle.x509_fields.specs.Groups.{oid_eq}
use Rattle.x509_extensions.specs.Lookups.{distinct_after}
use Rattle.x509_extensions.proofs.lookups.extensions_map.Goals as goal

pub loop-extension-init : goal.loop-extension-init
unfolding distinct_after
loop-extension-init g c = record { distinct = refl; entries = λ q. rw c.with_hasher-map.ensures.empty refl }

pub returns-then-is_some : goal.returns-then-is_some
returns-then-is_some g c =
    let map = get oid_eq c.loop-extension.map in
    let old = sym (ap is_some c.in-Ok.ensures.old) ∙ (sym c.is_some.ensures ∙ c.if-is_some.true) in
    let here = ap (λ x. is_some (map x.oid)) (sym c.extension-item.is) ∙ old in
    record { distinct = tt; entries = tt; refused = inr (refl, distinct-not (λ e. e.oid) map c.args.extensions.now c.loop-extension.extension-index c.extension-item.result c.loop-extension-test.true c.loop-extension.invariant.entries here) }

pub loop-extension-preserved : goal.loop-extension-preserved
loop-extension-preserved g c =
    let k = c.loop-extension.extension-index in
    let extensions = c.args.extensions.now in
    let item = c.extension-item.result in
    let map = get oid_eq c.loop-extension.map in
    let known = c.loop-extension.invariant.entries in
    let new = sym (ap is_some c.in-Ok.ensures.old) ∙ (sym c.is_some.ensures ∙ c.if-is_some.false) in
    let here = ap (λ x. is_some (map x.oid)) (sym c.extension-item.is) ∙ new in
    record {
      distinct = distinct-more (λ e. e.oid) map extensions k item c.loop-extension-test.true c.loop-extension.invariant.distinct known here;
      entries = map-more-item (λ e. e.oid) map (get oid_eq c.insert.new.self) extensions k item _ c.loop-extension-test.true c.extension-item.is refl known c.in-Ok.ensures.updates.0 new;
    }
