use Rattle.std.proofs.Common.{◌<◌, ◌≤◌, ◌+◌, ◌-◌, length, ℕ}
use Rattle.x509_der.specs.Unsigned.{unsigned_number}
use Rattle.x509_revoked.specs.Entries.{number_at}
use Rattle.x509_revoked.specs.Index.{binary_digits}
use Rattle.x509_revoked.proofs.search.search.Given as goal

-- those before the first are less, those behind the part are not, and each comparison took a digit
abbrev pub invariant-halves : goal.invariant-halves
invariant-halves g l =
    let xs = g.R.Ordered.indexed l.entries in
    let n = unsigned_number l.serial in
    record {
      within : l.first + l.size ≤ length xs;
      less : (j : ℕ) → j < l.first → number_at xs j < n;
      not_less : (j : ℕ) → l.first + l.size ≤ j → j < length xs → n ≤ number_at xs j;
      counted : l.compared + binary_digits l.size ≤ binary_digits (length xs);
      fits : l.compared ≤ 64 - binary_digits l.size;
      some : l.size < length xs → 0 < l.compared;
    }

abbrev pub decreases-halves : goal.decreases-halves
decreases-halves g l = l.size
