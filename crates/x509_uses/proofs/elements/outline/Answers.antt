-- Each header that is listed is that of the next member.
use Rattle.std.proofs.Common.{◌≡◌, ◌<◌, ◌++◌, ◌∙◌, ◌∷◌, [], ℕ, List, length, map, min, take, nat_eq, sym, ap, subst, arith}
use Rattle.x509_der.specs.declared.header.Header.{Header}
use Rattle.x509_der.specs.Children.{IsStop, child_element, count_of}
use Rattle.x509_der.specs.Cut.{IsBehind}
use Rattle.x509_der.specs.Looks.{place_at}
use Rattle.x509_der.specs.Reading.{element_at, loose}
use Rattle.x509_uses.proofs.Members.{as_many, one_more}
use Rattle.x509_uses.proofs.elements.outline.Goals.{in-Some+in_ok-push, in_default}
use Rattle.x509_uses.proofs.elements.outline.Goals as goal

pub loop-k-init : goal.loop-k-init
loop-k-init c members tail cut = c.new-headers.ensures.items

pub loop-k-preserved : goal.loop-k-preserved
loop-k-preserved c members tail cut =
    let k = c.loop-k.k in
    let count = c.cut-children.ensures.first members tail cut in
    let within : k < length members = omega (arith, count.0, c.count-k-end.ensures.count, c.loop-k-test.true) in
    elim c.match-get.branch [
      | in-Some+in_ok-push w ↦
          let element = ap (λ (b : List ℕ). element_at loose (place_at b k)) (sym c.cut-children.ensures.window) ∙ w.in-Some.ensures.element in
          ap (λ h. h.items) w.headers-is ∙ w.in_ok-push.ensures.items
          ∙ ap (λ (hs : List Header). hs ++ w.in-Some.child.header ∷ []) (c.loop-k.invariant members tail cut)
          ∙ sym (one_more c.args.contents.now members tail cut.chain k within (child_element w.in-Some.child) _ element)
      | in_default w ↦ absurd (cc (w.in_default.ensures.variant.1 (omega (arith, c.count-k-end.ensures.count, c.loop-k-test.true))))
    ]

pub returns : goal.returns
returns c members tail cut =
    let count = c.cut-children.ensures.first members tail cut in
    let window = c.cut-children.ensures.window in
    let all : c.loop-k.k ≡ min (length members) 12 = omega (arith, count.0, c.count-k-end.ensures.count, c.loop-k-test.false, c.loop-k.auto.k-end) in
    let place = place_at c.args.contents.now (count_of c.cut-children.result) in
    record {
      listed = c.loop-k.invariant members tail cut ∙ ap (λ (n : ℕ). map (λ e. e.header) (take n members)) all ∙ ap (map (λ e. e.header)) (as_many members 12);
      place = place;
      behind = subst (λ (n : ℕ). IsBehind c.args.contents.now members n place) count.0 count.1;
      stops = subst (λ (n : ℕ). IsStop (nat_eq n 12) place c.stop.result) count.0
          (subst (λ (b : List ℕ). IsStop (nat_eq (count_of c.cut-children.result) 12) (place_at b (count_of c.cut-children.result)) c.stop.result) window c.stop.ensures);
    }
