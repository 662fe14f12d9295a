-- Each item has its row.
use Rattle.std.proofs.Common.{rules, length, ◌<◌, subst}
use Rattle.std.proofs.lemmas.List.{length-map}
use Rattle.x509_c.proofs.Rows.{rows_more_of}
use Rattle.x509_c.proofs.row_writer.put_rows.Goals as goal

pub loop-i-preserved : goal.loop-i-preserved
loop-i-preserved g c =
    let within : c.loop-i.i < length c.args.items.now = search rules in
    rows_more_of g.T.HasRow.Shows g.T.HasRow.view c.loop-i.i c.loop-i.rows c.args.items.now c.index-items-i.result c.row.result (search rules) within c.index-items-i.is c.loop-i.invariant c.row.ensures

pub returns : goal.returns
returns g c k r x in_rows in_items =
    let within : k < length c.args.items.now = subst (λ n. k < n) (length-map c.args.items.now g.T.HasRow.view) in_items in
    c.loop-i.invariant k r x (search rules)
