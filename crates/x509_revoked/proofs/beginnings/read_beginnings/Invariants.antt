use Rattle.std.proofs.Common.{◌≤◌, length}
use Rattle.x509_revoked.specs.HeadedEntries.{offsets_of, AreHeaded}
use Rattle.x509_revoked.proofs.Filled.{Begun}
use Rattle.x509_revoked.proofs.beginnings.read_beginnings.Given as goal

-- those that were passed begin there, each with its head
abbrev pub invariant-loop-left : goal.invariant-loop-left
invariant-loop-left l = record {
  begun : Begun l.octets l.left (offsets_of l.entries.items);
  headed : AreHeaded l.octets l.entries.items;
  within : length l.left ≤ length l.octets;
}

abbrev pub decreases-loop-left : goal.decreases-loop-left
decreases-loop-left l = length l.left
