-- One member more.
use Rattle.std.proofs.Common.{◌≡◌, suc, zero, ◌+◌, ◌-◌, nat_lt, true, false, length, sym, ap, ◌∙◌, arith}
use Rattle.std.proofs.lemmas.Bool.{lt-ltb, le-ltb}
use Rattle.x509_elements.specs.Cursors.{Step, called_of, standing_of}
use Rattle.x509_elements.specs.Paths.{find_member, size_of}
use Rattle.x509_elements.specs.Seen.{seen_of}
use Rattle.x509_elements.proofs.Finding.{find_here, find_next, find_none, find_unknown, find_unseen, number_stepped}
use Rattle.x509_elements.proofs.member.find.Goals as goal

pub loop-preserved : goal.loop-preserved
loop-preserved c =
    let it = c.loop in
    let s = seen_of c.in-Some.seen in
    let all = length c.args.members.now in
    let step : Step = (called_of c.step.result.0, standing_of c.step.result.1) in
    let left : all - it.counter ≡ suc (all - (it.counter + 1)) = omega (arith, c.loop-test.true) in
    let size : length it.window.now - length c.in-Some.seen.behind.now ≡ size_of s = omega (arith, c.in-Some.ensures.sizes) in
    let beyond : nat_lt it.at (size_of s) ≡ false = le-ltb it.at (size_of s) (omega (arith, size, c.if-at-size.false)) in
    record {
      found =
          ap (λ n. find_member (all - (it.counter + 1)) step.1 s.behind (it.at - n)) size
          ∙ sym (find_next (all - (it.counter + 1)) (standing_of it.cursor) it.window.now it.at s step c.in-Some.ensures.found c.step.ensures (sym c.if-not-is_field.ensures) beyond)
          ∙ ap (λ n. find_member n (standing_of it.cursor) it.window.now it.at) (sym left)
          ∙ it.invariant.found;
      number = ap (λ (t : Step). t.1.number) c.step.ensures ∙ number_stepped (standing_of it.cursor) s.header s.contents ∙ ap (λ n. n + 1) it.invariant.number;
    }

pub returns-in_default : goal.returns-in_default
returns-in_default c =
    let it = c.loop in
    let all = length c.args.members.now in
    let left : all - it.counter ≡ suc (all - (it.counter + 1)) = omega (arith, c.loop-test.true) in
    sym (find_unseen (all - (it.counter + 1)) (standing_of it.cursor) it.window.now it.at c.in_default.ensures.found)
    ∙ ap (λ n. find_member n (standing_of it.cursor) it.window.now it.at) (sym left)
    ∙ it.invariant.found

pub returns-then-not-is_field : goal.returns-then-not-is_field
returns-then-not-is_field c =
    let it = c.loop in
    let s = seen_of c.in-Some.seen in
    let all = length c.args.members.now in
    let step : Step = (called_of c.step.result.0, standing_of c.step.result.1) in
    let left : all - it.counter ≡ suc (all - (it.counter + 1)) = omega (arith, c.loop-test.true) in
    sym (find_unknown (all - (it.counter + 1)) (standing_of it.cursor) it.window.now it.at s step c.in-Some.ensures.found c.step.ensures (sym c.if-not-is_field.ensures))
    ∙ ap (λ n. find_member n (standing_of it.cursor) it.window.now it.at) (sym left)
    ∙ it.invariant.found

pub returns-then-at-size : goal.returns-then-at-size
returns-then-at-size c =
    let it = c.loop in
    let s = seen_of c.in-Some.seen in
    let all = length c.args.members.now in
    let step : Step = (called_of c.step.result.0, standing_of c.step.result.1) in
    let left : all - it.counter ≡ suc (all - (it.counter + 1)) = omega (arith, c.loop-test.true) in
    let size : length it.window.now - length c.in-Some.seen.behind.now ≡ size_of s = omega (arith, c.in-Some.ensures.sizes) in
    let within : nat_lt it.at (size_of s) ≡ true = lt-ltb it.at (size_of s) (omega (arith, size, c.if-at-size.true)) in
    sym (find_here (all - (it.counter + 1)) (standing_of it.cursor) it.window.now it.at s step c.in-Some.ensures.found c.step.ensures (sym c.if-not-is_field.ensures) within)
    ∙ ap (λ n. find_member n (standing_of it.cursor) it.window.now it.at) (sym left)
    ∙ it.invariant.found

pub returns : goal.returns
returns c =
    let it = c.loop in
    let none : length c.args.members.now - it.counter ≡ zero = omega (arith, c.loop-test.false) in
    sym (find_none (standing_of it.cursor) it.window.now it.at)
    ∙ ap (λ n. find_member n (standing_of it.cursor) it.window.now it.at) (sym none)
    ∙ it.invariant.found
