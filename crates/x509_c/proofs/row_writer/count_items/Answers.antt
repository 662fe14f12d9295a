-- The items of one member more.
use Rattle.std.proofs.Common.{◌≡◌, ◌+◌, List, ℕ, length, map, take, ap, ◌∙◌, arith}
use Rattle.std.proofs.lemmas.List.{length-map, length-append}
use Rattle.std.proofs.lemmas.Grind.{common_steps}
use Rattle.x509_c.specs.Rows.{numbered, numbered_from}
use Rattle.x509_c.proofs.Numbered.{one_member_more}
use Rattle.x509_c.proofs.row_writer.count_items.Goals as goal

pub loop-i-preserved : goal.loop-i-preserved
loop-i-preserved g c =
    let i = c.loop-i.i in
    let own : g.row.M.Denot → List g.T.HasNumberedRow.Value = λ m. map g.T.HasNumberedRow.view (g.S.ItemsOf.own m) in
    let members = c.args.members.now in
    let done = numbered_from 0 (take i (map own members)) in
    let member = c.index-members-i.result in
    let more = numbered i (own member) in
    let size : length more ≡ length (g.S.ItemsOf.own member) = length-map (own member) (λ (x : g.T.HasNumberedRow.Value). (i, x)) ∙ length-map (g.S.ItemsOf.own member) g.T.HasNumberedRow.view in
    let told : length c.items.result.now ≡ length (g.S.ItemsOf.own member) = ap (λ xs. length xs) c.items.ensures in
    let grown = ap (λ (xs : List (ℕ × g.T.HasNumberedRow.Value)). length xs) (one_member_more own members i member c.loop-i-test.true c.index-members-i.is) ∙ length-append done more in
    let sum : c.in_ok-count.count ≡ c.loop-i.count + length c.items.result.now = grind (arith, common_steps, c.checked_add.ensures, c.branch-count.ensures, c.in_ok-count.is, c.in_ok-count.was, c.in_ok-count.ensures) in
    omega (arith, sum, told, size, grown, c.loop-i.invariant)
