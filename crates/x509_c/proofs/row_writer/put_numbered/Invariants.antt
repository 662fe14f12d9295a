-- The rows so far show their items, and those before them are as they were.
use Rattle.std.proofs.Common.{◌≡◌, ℕ, ◌<◌, ◌+◌, map, get_or}
use Rattle.x509_c.specs.Rows.{numbered}
use Rattle.x509_c.proofs.row_writer.put_numbered.Given as goal

abbrev pub invariant-loop-i : goal.invariant-loop-i
invariant-loop-i g l = record {
  kept : (k : ℕ) (r : _) → k < l.written → get_or l.rows k r ≡ get_or l.fn.rows k r;
  shown : (k : ℕ) (r : _) (x : ℕ × g.T.HasNumberedRow.Value) → k < l.i → g.T.HasNumberedRow.Shows (get_or l.rows (l.written + k) r) (get_or (numbered l.number (map g.T.HasNumberedRow.view l.items)) k x);
}
