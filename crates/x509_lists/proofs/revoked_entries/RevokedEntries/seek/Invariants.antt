use Rattle.std.proofs.Common.{length}
use Rattle.x509_der.specs.Unsigned.{unsigned_number}
use Rattle.x509_lists.specs.RevokedEntries.{entries_of}
use Rattle.x509_lists.proofs.Seeking.{Sought}
use Rattle.x509_lists.proofs.revoked_entries.RevokedEntries.seek.Given as goal

abbrev pub invariant-loop-first : goal.invariant-loop-first
invariant-loop-first l = Sought (entries_of l.self) (unsigned_number l.serial) (entries_of l.left) l.position

abbrev pub decreases-loop-first : goal.decreases-loop-first
decreases-loop-first l = length (entries_of l.left)
