-- The rows so far show their items.
use Rattle.std.proofs.Common.{map}
use Rattle.x509_c.specs.Rows.{RowsShowBelow}
use Rattle.x509_c.proofs.row_writer.put_rows.Given as goal

abbrev pub invariant-loop-i : goal.invariant-loop-i
invariant-loop-i g l = RowsShowBelow g.T.HasRow.Shows l.i l.rows (map g.T.HasRow.view l.items)
