-- The items of the members so far.
use Rattle.std.proofs.Common.{◌≡◌, length, map, take}
use Rattle.x509_c.specs.Rows.{numbered_from}
use Rattle.x509_c.proofs.row_writer.count_items.Given as goal

abbrev pub invariant-loop-i : goal.invariant-loop-i
invariant-loop-i g l = l.count ≡ length (numbered_from 0 (take l.i (map (λ m. map g.T.HasNumberedRow.view (g.S.ItemsOf.own m)) l.members)))
