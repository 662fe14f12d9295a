use Rattle.std.proofs.Common.{◌≤◌, length, take}
use Rattle.x509_revoked.proofs.Filled.{Begun}
use Rattle.x509_revoked.proofs.beginnings.are_beginnings.Given as goal

-- those that were passed begin at the offsets so far
abbrev pub invariant-loop-offset : goal.invariant-loop-offset
invariant-loop-offset l = record {
  begun : Begun l.octets l.left (take l.offset-index l.offsets);
  within : length l.left ≤ length l.octets;
}
