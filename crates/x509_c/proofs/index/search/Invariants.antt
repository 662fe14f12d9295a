-- Those before the first are less, and those behind the part are not, where the rows are in order.
use Rattle.std.proofs.Common.{◌<◌, ◌≤◌, ◌+◌, length, map, ℕ}
use Rattle.x509_der.specs.Unsigned.{unsigned_number}
use Rattle.x509_revoked.specs.Entries.{AreInOrder, number_at}
use Rattle.x509_c.specs.Index.{row_of}
use Rattle.x509_c.proofs.index.search.Given as goal

abbrev pub invariant-halves : goal.invariant-halves
invariant-halves l =
    let xs = map row_of l.rows in
    let n = unsigned_number l.serial in
    record {
      within : l.first + l.size ≤ length l.rows;
      less : AreInOrder xs → (j : ℕ) → j < l.first → number_at xs j < n;
      not_less : AreInOrder xs → (j : ℕ) → l.first + l.size ≤ j → j < length xs → n ≤ number_at xs j;
    }

abbrev pub decreases-halves : goal.decreases-halves
decreases-halves l = l.size
