use Rattle.std.proofs.Common.{◌≡◌, [], true, false, refl, arith, sym, ◌∙◌, ap, subst, length}
use Rattle.std.proofs.lemmas.List.{length-set, length-replicate}
use Rattle.x509_der.specs.Looks.{header_of, behind, is_element, place_at}
use Rattle.x509_der.specs.declared.look.Form.TheVariants.{Loose}
use Rattle.x509_der.specs.Place.{at, seen_at}
use Rattle.x509_der.proofs.Looks.{next_place, entries_more, below_more, new_entry, suffix_then, behind_suffix, behind_shorter, header_suffix, suffix_within, IsSuffix}
use Rattle.x509_der.proofs.Cutting.{cut_first, cut_bound}
use Rattle.x509_der.proofs.children.Elements.cut.Goals as goal
use Rattle.x509_der.proofs.children.Elements.cut.Goals.{else-loop-count-test, then-loop-count-test+in_default}

pub loop-count-preserved : goal.loop-count-preserved
loop-count-preserved g c =
    let inv = c.loop-count.invariant in
    let end = c.loop-count.end in
    let count = c.loop-count.count in
    let window = c.args.window.now in
    let there = c.in-Some.ensures.some.0 in
    let behind_it = c.in-Some.ensures.some.1 in
    let looked = c.look-end-in-loop-count.ensures in
    let now : at c.look-end-in-loop-count.result ≡ behind (at end) = looked.bytes ∙ behind_it in
    let next = next_place window count (at end) (at c.look-end-in-loop-count.result) inv.last now in
    let shorter = behind_shorter (at end) end.octets there in
    let same = ap length now in
    let given = ap length behind_it in
    let entry = new_entry window (at end) (place_at window count) end.beyond.now (seen_at end) end.octets inv.suffix inv.last c.in-Some.ensures.looked c.in-Some.ensures.first in
    record {
      few = omega (arith, c.loop-count-test.true);
      room = length-set c.loop-count.entries count _ ∙ inv.room;
      each = entries_more window c.loop-count.entries count _ (omega (arith, inv.room, c.loop-count-test.true)) inv.each entry;
      elements = below_more (λ k. is_element (place_at window k) ≡ true) count inv.elements (subst (λ b. is_element b ≡ true) inv.last there);
      last = next;
      suffix = suffix_then window (at end) _ inv.suffix (subst (IsSuffix (at end)) (sym now) (behind_suffix (at end) end.octets there));
      sizes = omega (arith, inv.sizes, shorter, same);
      tries = omega (arith, inv.tries, inv.sizes, shorter, same, given, looked.tries.few);
      grows = omega (arith, inv.grows, looked.tries.grows);
      least = λ under. omega (arith, inv.least, looked.tries.some, looked.tries.grows, same, given, shorter, under);
    }

pub loop-count-init : goal.loop-count-init
loop-count-init g c = record { few = omega arith; room = length-replicate g.row.N _; each = λ k other less. absurd (omega (arith, less)); elements = λ k less. absurd (omega (arith, less)); last = c.look-end.ensures.bytes; suffix = ([], sym c.look-end.ensures.bytes); sizes = omega (arith, ap length c.look-end.ensures.bytes); tries = omega (arith, c.look-end.ensures.tries.few, ap length c.look-end.ensures.bytes); grows = omega (arith, c.look-end.ensures.tries.grows); least = λ under. omega (arith, c.look-end.ensures.tries.some, ap length c.look-end.ensures.bytes, under) }

pub overflow_sub-entries-in-loop-count : goal.overflow_sub-entries-in-loop-count
overflow_sub-entries-in-loop-count g c =
    let end = c.loop-count.end in
    suffix_within c.args.window.now end.beyond.now
    (suffix_then c.args.window.now (at end) end.beyond.now c.loop-count.invariant.suffix
    (header_suffix (at end) end.beyond.now (header_of (seen_at end)) end.octets (c.in-Some.ensures.looked Loose)))

pub returns-clause-first : goal.returns-clause-first
returns-clause-first g c =
    let inv = c.loop-count.invariant in
    cut_first c.args.window.now g.row.N c.loop-count.count (λ k. omega (arith, c.type_inv.window k)) inv.few inv.elements (λ room. elim c.loop-count-test.branch [
      | else-loop-count-test w ↦ absurd (omega (arith, w.loop-count-test.false, room))
      | then-loop-count-test+in_default w ↦ subst (λ b. is_element b ≡ false) inv.last (w.in_default.ensures.none refl)
    ])

pub returns-clause-bound : goal.returns-clause-bound
returns-clause-bound g c = λ members tail cut.
    let first = returns-clause-first g c members tail cut in
    let most = cut_bound c.args.window.now g.row.N c.loop-count.count members tail cut first.0 first.1 in
    omega (arith, most, c.loop-count.invariant.tries, ap length c.loop-count.invariant.last)
