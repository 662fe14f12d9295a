-- The rows so far show the items of the members so far.
use Rattle.std.proofs.Common.{◌≡◌, length, map, min, take}
use Rattle.x509_c.specs.Rows.{RowsShowBelow, numbered_from}
use Rattle.x509_c.proofs.row_writer.put_items.Given as goal

abbrev pub invariant-loop-i : goal.invariant-loop-i
invariant-loop-i g l =
    let done = numbered_from 0 (take l.i (map (λ m. map g.T.HasNumberedRow.view (g.S.ItemsOf.own m)) l.members)) in
    record { count : l.written ≡ min (length l.rows) (length done); rows : RowsShowBelow g.T.HasNumberedRow.Shows l.written l.rows done }
