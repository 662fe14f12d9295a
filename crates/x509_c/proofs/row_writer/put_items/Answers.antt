-- The items of one member more.
use Rattle.std.proofs.Common.{◌≡◌, ◌+◌, ◌++◌, List, ℕ, length, map, min, take, sym, subst, ap, ◌∙◌, rules}
use Rattle.x509_c.specs.Rows.{ContinuesRows, RowsShowBelow, numbered, numbered_from}
use Rattle.x509_c.proofs.Numbered.{one_member_more}
use Rattle.x509_c.proofs.Rows.{rows_continued, count_continued}
use Rattle.x509_c.proofs.row_writer.put_items.Goals as goal

pub loop-i-preserved : goal.loop-i-preserved
loop-i-preserved g c =
    let i = c.loop-i.i in
    let own : g.row.M.Denot → List g.T.HasNumberedRow.Value = λ m. map g.T.HasNumberedRow.view (g.S.ItemsOf.own m) in
    let members = c.args.members.now in
    let done = numbered_from 0 (take i (map own members)) in
    let member = c.index-members-i.result in
    let more = numbered i (own member) in
    let written = c.put_numbered-written.result in
    let rows = c.put_numbered-written.new.rows in
    let same : length rows ≡ length c.loop-i.rows = search rules in
    let continues : ContinuesRows g.T.HasNumberedRow.Shows c.loop-i.written c.loop-i.rows written rows more
    = subst (λ xs. ContinuesRows g.T.HasNumberedRow.Shows c.loop-i.written c.loop-i.rows written rows (numbered i (map g.T.HasNumberedRow.view xs))) c.items.ensures c.put_numbered-written.ensures in
    let grown : numbered_from 0 (take (i + 1) (map own members)) ≡ done ++ more = one_member_more own members i member c.loop-i-test.true c.index-members-i.is in
    record {
      count = count_continued g.T.HasNumberedRow.Shows c.loop-i.written written c.loop-i.rows rows done more same c.loop-i.invariant.count continues ∙ ap (λ (xs : List (ℕ × g.T.HasNumberedRow.Value)). min (length rows) (length xs)) (sym grown);
      rows = subst (λ (xs : List (ℕ × g.T.HasNumberedRow.Value)). RowsShowBelow g.T.HasNumberedRow.Shows written rows xs) (sym grown) (rows_continued g.T.HasNumberedRow.Shows c.loop-i.written written c.loop-i.rows rows done more same c.loop-i.invariant.count continues c.loop-i.invariant.rows);
    }
