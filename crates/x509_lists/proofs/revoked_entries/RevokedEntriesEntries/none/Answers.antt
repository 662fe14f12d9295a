use Rattle.x509_lists.proofs.Passing.{holds_none}
use Rattle.x509_lists.proofs.revoked_entries.RevokedEntriesEntries.none.Goals as goal

pub invariant_of-result : goal.invariant_of-result
invariant_of-result c = record { holds = holds_none }
