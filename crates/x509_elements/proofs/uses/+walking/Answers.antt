-- One member more, and what is used in it.
use Rattle.std.proofs.Common.{◌≡◌, ℕ, List, suc, zero, ◌+◌, ◌-◌, ◌++◌, length, sym, ap, ◌∙◌, arith}
use Rattle.std.proofs.lemmas.Result.{on_ok_weaker}
use Rattle.x509_elements.specs.Cursors.{Step, called_of, standing_of}
use Rattle.x509_elements.specs.Seen.{seen_of}
use Rattle.x509_elements.specs.Paths.{size_of}
use Rattle.x509_elements.specs.declared.leniency.Leniency.TheVariants.{BytesBehind}
use Rattle.x509_elements.specs.Uses.{among, inside, members, one_use, own_rule, uses_by, told, unread_rule, within}
use Rattle.x509_elements.proofs.Using.{absent_is, begun, behind_fits, both_added, counted, ended, goes_on, inside_deepest, inside_unseen, last_added, member_absent, member_there, member_unseen, no_members, no_octets, none_left, nothing_more, present_is, some_octets}
use Rattle.x509_elements.proofs.uses.+walking.Goals as goal

pub look_inside-returns-then-depth-eq0 : goal.look_inside-returns-then-depth-eq0
look_inside-returns-then-depth-eq0 t c =
    let none : c.args.depth ≡ zero = omega (arith, c.if-depth-eq0.true) in
    nothing_more c.args.uses.now.items (inside c.args.depth c.args.part c.args.at c.args.place.now)
    (ap (λ n. inside n c.args.part c.args.at c.args.place.now) none ∙ inside_deepest c.args.part c.args.at c.args.place.now)

pub look_inside-returns-in_default : goal.look_inside-returns-in_default
look_inside-returns-in_default t c =
    let deep : c.args.depth ≡ suc (c.args.depth - 1) = omega (arith, c.if-depth-eq0.false) in
    nothing_more c.args.uses.now.items (inside c.args.depth c.args.part c.args.at c.args.place.now)
    (ap (λ n. inside n c.args.part c.args.at c.args.place.now) deep
    ∙ inside_unseen (c.args.depth - 1) c.args.part c.args.at c.args.place.now c.in_default.ensures.found)

pub look_inside-returns : goal.look_inside-returns
look_inside-returns t c =
    let deep : c.args.depth ≡ suc (c.args.depth - 1) = omega (arith, c.if-depth-eq0.false) in
    let s = seen_of c.in-Some.element in
    let more = among (c.args.depth - 1) c.args.part c.args.place.now (c.args.at + s.size) c.contents_of-members.result.now in
    on_ok_weaker c.look_at_members.result
    (both_added c.args.uses.now.items c.add_own.new.uses.items c.look_at_members.new.uses.items (uses_by (own_rule c.args.part c.args.place.now s) c.args.at) more
    (inside c.args.depth c.args.part c.args.at c.args.place.now) c.in_ok-add_own.ensures
    (ap (λ n. inside n c.args.part c.args.at c.args.place.now) deep
    ∙ begun (c.args.depth - 1) c.args.part c.args.at c.args.place.now s c.contents_of-members.result.now c.in-Some.ensures.found c.contents_of-members.ensures)) c.look_at_members.ensures

pub look_at_members-loop-init : goal.look_at_members-loop-init
look_at_members-loop-init t c =
    let all = c.args.members.now in
    let look = within c.args.depth c.args.part in (
      ap (λ n. c.args.uses.now.items ++ members look n (standing_of c.of-cursor.result) (record { part = c.args.part; octets = c.args.place.now }) c.args.at all) (omega arith)
          ∙ ap (λ first. c.args.uses.now.items ++ members look (length all) first (record { part = c.args.part; octets = c.args.place.now }) c.args.at all) c.of-cursor.ensures,
      omega arith,
      ap (λ st. st.number) c.of-cursor.ensures,
    )

pub look_at_members-returns-after-loop : goal.look_at_members-returns-after-loop
look_at_members-returns-after-loop t c =
    let it = c.loop in
    let look = within c.args.depth c.args.part in
    let none : length c.args.members.now - it.counter ≡ zero = omega (arith, c.loop-test.false) in
    ended it.uses.items (members look (length c.args.members.now - it.counter) (standing_of it.cursor) (record { part = c.args.part; octets = c.args.place.now }) it.next it.left.now) _ it.invariant.0
    (ap (λ n. members look n (standing_of it.cursor) (record { part = c.args.part; octets = c.args.place.now }) it.next it.left.now) none ∙ no_members look (standing_of it.cursor) (record { part = c.args.part; octets = c.args.place.now }) it.next it.left.now)

pub look_at_members-returns-then-is_empty : goal.look_at_members-returns-then-is_empty
look_at_members-returns-then-is_empty t c =
    let it = c.loop in
    let n = length c.args.members.now - it.counter in
    let look = within c.args.depth c.args.part in
    ended it.uses.items (members look n (standing_of it.cursor) (record { part = c.args.part; octets = c.args.place.now }) it.next it.left.now) _ it.invariant.0
    (ap (λ octets. members look n (standing_of it.cursor) (record { part = c.args.part; octets = c.args.place.now }) it.next octets) (no_octets it.left.now c.if-is_empty.ensures)
    ∙ none_left look n (standing_of it.cursor) (record { part = c.args.part; octets = c.args.place.now }) it.next)

pub look_at_members-returns-in_default : goal.look_at_members-returns-in_default
look_at_members-returns-in_default t c =
    let it = c.loop in
    let all = length c.args.members.now in
    let look = within c.args.depth c.args.part in
    let left : all - it.counter ≡ suc (all - (it.counter + 1)) = omega (arith, c.loop-test.true) in
    on_ok_weaker c.add.result
    (λ grew. last_added it.uses.items c.add.new.uses.items (one_use BytesBehind it.next) (members look (all - it.counter) (standing_of it.cursor) (record { part = c.args.part; octets = c.args.place.now }) it.next it.left.now) _ grew
    (ap (λ n. members look n (standing_of it.cursor) (record { part = c.args.part; octets = c.args.place.now }) it.next it.left.now) left
    ∙ member_unseen look (all - (it.counter + 1)) (standing_of it.cursor) (record { part = c.args.part; octets = c.args.place.now }) it.next it.left.now (some_octets it.left.now c.if-is_empty.ensures) c.in_default.ensures.found)
    it.invariant.0) c.add.ensures

pub look_at_members-returns-then-is_absent : goal.look_at_members-returns-then-is_absent
look_at_members-returns-then-is_absent t c =
    let it = c.loop in
    let all = length c.args.members.now in
    let look = within c.args.depth c.args.part in
    let left : all - it.counter ≡ suc (all - (it.counter + 1)) = omega (arith, c.loop-test.true) in
    let step : Step = (called_of c.step.result.0, standing_of c.step.result.1) in
    on_ok_weaker c.add_by.result
    (λ grew. last_added it.uses.items c.add_by.new.uses.items (uses_by (unread_rule (called_of c.step.result.0)) it.next) (members look (all - it.counter) (standing_of it.cursor) (record { part = c.args.part; octets = c.args.place.now }) it.next it.left.now) _ (grew ∙ ap (λ rule. it.uses.items ++ uses_by rule it.next) c.unread_rule.ensures)
    (ap (λ n. members look n (standing_of it.cursor) (record { part = c.args.part; octets = c.args.place.now }) it.next it.left.now) left
    ∙ member_absent look (all - (it.counter + 1)) (standing_of it.cursor) (record { part = c.args.part; octets = c.args.place.now }) it.next it.left.now (seen_of c.in-Some.member) step c.in_ok-judged.judged
    (some_octets it.left.now c.if-is_empty.ensures) c.in-Some.ensures.found c.step.ensures c.in_ok-judged.ensures (absent_is c.in_ok-judged.judged c.if-is_absent.ensures))
    it.invariant.0) c.add_by.ensures

pub look_at_members-loop-preserved : goal.look_at_members-loop-preserved
look_at_members-loop-preserved t c =
    let it = c.loop in
    let all = length c.args.members.now in
    let look = within c.args.depth c.args.part in
    let left : all - it.counter ≡ suc (all - (it.counter + 1)) = omega (arith, c.loop-test.true) in
    let s = seen_of c.in-Some.member in
    let called = called_of c.step.result.0 in
    let step : Step = (called, standing_of c.step.result.1) in
    let found = it.uses.items in
    let rest = members look (all - (it.counter + 1)) (standing_of c.step.result.1) (record { part = c.args.part; octets = c.args.place.now }) (it.next + size_of s) c.behind_of-left.result.now in
    let grew = c.in_ok-tell.ensures ∙ ap (λ rule. found ++ told rule c.in_ok-judged.judged it.next (inside c.args.depth called.part it.next it.left.now)) c.rule_of-rule.ensures in (
      goes_on found c.tell.new.uses.items (look called c.in_ok-judged.judged it.next it.left.now) (members look (all - it.counter) (standing_of it.cursor) (record { part = c.args.part; octets = c.args.place.now }) it.next it.left.now) rest _ grew
          (ap (λ n. members look n (standing_of it.cursor) (record { part = c.args.part; octets = c.args.place.now }) it.next it.left.now) left
          ∙ member_there look (all - (it.counter + 1)) (standing_of it.cursor) (record { part = c.args.part; octets = c.args.place.now }) it.next it.left.now s step c.in_ok-judged.judged
          (some_octets it.left.now c.if-is_empty.ensures) c.in-Some.ensures.found c.step.ensures c.in_ok-judged.ensures (present_is c.in_ok-judged.judged c.if-is_absent.ensures)
          ∙ ap (λ octets. look called c.in_ok-judged.judged it.next it.left.now ++ members look (all - (it.counter + 1)) (standing_of c.step.result.1) (record { part = c.args.part; octets = c.args.place.now }) (it.next + size_of s) octets) (sym c.behind_of-left.ensures))
          it.invariant.0,
      omega (arith, it.invariant.1, c.in-Some.ensures.sizes, behind_fits called.part s, ap (λ (octets : List ℕ). length octets) c.behind_of-left.ensures),
      ap (λ (p : Step). p.1.number) c.step.ensures ∙ counted (standing_of it.cursor) s ∙ ap (λ n. n + 1) it.invariant.2,
    )
