use Rattle.std.proofs.Common.{◌≡◌, ◌<◌, ◌^◌, ◌++◌, length}
use Rattle.std.specs.List.{All}
use Rattle.x509_revoked.specs.IndexFile.{offset_octets}
use Rattle.x509_revoked.proofs.index_file.take_offsets.Given as goal

-- what was read, and what is left
abbrev pub invariant-loop-offset : goal.invariant-loop-offset
invariant-loop-offset l = record {
  read : l.octets ≡ offset_octets l.offsets.items ++ l.left;
  fit : All (λ o. o < 2 ^ 32) l.offsets.items;
}

abbrev pub decreases-loop-offset : goal.decreases-loop-offset
decreases-loop-offset l = length l.left
