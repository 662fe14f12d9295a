use Rattle.std.proofs.Common.{◌≡◌, ◌&&◌, map, length}
use Rattle.x509_der.specs.Plan.{members, marks_of_members}
use Rattle.x509_der.specs.Laws.{IsBytes}
use Rattle.x509_der.proofs.RunLoop.{with_front}
use Rattle.x509_values.specs.Timestamp.{timestamp_of, timestamp}
use Rattle.x509_values.proofs.timestamp_list.read_entries.Given as goal

abbrev pub invariant-loop-after : goal.invariant-loop-after
invariant-loop-after l = record {
  bytes : IsBytes l.rest;
  run : with_front (map timestamp_of l.entries) (members timestamp l.rest) ≡ members timestamp l.i;
  marks : (l.plain && marks_of_members timestamp l.rest) ≡ marks_of_members timestamp l.i;
}

abbrev pub decreases-loop-after : goal.decreases-loop-after
decreases-loop-after l = length l.rest
