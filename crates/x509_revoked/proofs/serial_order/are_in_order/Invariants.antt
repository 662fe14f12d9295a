use Rattle.std.proofs.Common.{◌≡◌, ℕ, ◌+◌, ◌<◌, false, get_or, is_lt}
use Rattle.x509_revoked.specs.HeadedEntries.{by_head}
use Rattle.x509_revoked.specs.declared.headed_entry.HeadedEntry.{HeadedEntry}
use Rattle.x509_revoked.proofs.serial_order.are_in_order.Given as goal

-- none so far is less than the one before it
abbrev pub invariant-loop-entry : goal.invariant-loop-entry
invariant-loop-entry l = (k : ℕ) (d : HeadedEntry) → k + 1 < l.entry → is_lt (by_head l.octets (get_or l.entries (k + 1) d) (get_or l.entries k d)) ≡ false
