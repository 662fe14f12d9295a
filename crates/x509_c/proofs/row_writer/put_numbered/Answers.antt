-- Each item has its row behind the rows before.
use Rattle.std.proofs.Common.{◌<◌, ◌+◌, ℕ, length, map, sym, subst, ◌∙◌, arith, rules}
use Rattle.std.proofs.lemmas.List.{get_or-set_other}
use Rattle.x509_c.specs.Rows.{numbered}
use Rattle.x509_c.proofs.Numbered.{item_at}
use Rattle.x509_c.proofs.Rows.{behind_more}
use Rattle.x509_c.proofs.row_writer.put_numbered.Goals as goal

pub loop-i-preserved : goal.loop-i-preserved
loop-i-preserved g c =
    let i = c.loop-i.i in
    let written = c.args.written in
    let row = c.numbered_row.result in
    let items = c.args.items.now in
    let within : i < length items = search rules in
    let room : written + i < length c.loop-i.rows = search rules in
    record {
      kept = λ k r below. get_or-set_other c.loop-i.rows (written + i) k row r (omega (arith, below)) ∙ c.loop-i.invariant.kept k r below;
      shown = behind_more g.T.HasNumberedRow.Shows written i c.loop-i.rows (numbered c.args.number (map g.T.HasNumberedRow.view items)) row room c.loop-i.invariant.shown
          (λ y. subst (λ (a : ℕ × g.T.HasNumberedRow.Value). g.T.HasNumberedRow.Shows row a) (sym (item_at g.T.HasNumberedRow.view c.args.number items i c.index-items-i.result y within))
          (subst (λ item. g.T.HasNumberedRow.Shows row (c.args.number, g.T.HasNumberedRow.view item)) c.index-items-i.is c.numbered_row.ensures));
    }
