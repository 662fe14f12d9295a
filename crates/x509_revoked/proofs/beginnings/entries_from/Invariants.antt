use Rattle.std.proofs.Common.{◌≡◌, take}
use Rattle.x509_revoked.specs.HeadedEntries.{offsets_of, AreHeaded}
use Rattle.x509_revoked.proofs.beginnings.entries_from.Given as goal

-- those at the offsets so far
abbrev pub invariant-loop-offset : goal.invariant-loop-offset
invariant-loop-offset l = record {
  begin : offsets_of l.entries.items ≡ take l.offset-index l.offsets;
  headed : AreHeaded l.octets l.entries.items;
}
