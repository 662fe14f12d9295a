use Rattle.std.proofs.Common.{◌≡◌, ◌++◌, length, take}
use Rattle.x509_revoked.specs.HeadedEntries.{offsets_of}
use Rattle.x509_revoked.specs.IndexFile.{head_octets, offset_octets}
use Rattle.x509_revoked.proofs.index_file.write_index.Given as goal

-- the head, and the offsets so far
abbrev pub invariant-loop-entry : goal.invariant-loop-entry
invariant-loop-entry l = l.file.items ≡ head_octets (length l.entries) l.octets ++ offset_octets (offsets_of (take l.entry-index l.entries))
