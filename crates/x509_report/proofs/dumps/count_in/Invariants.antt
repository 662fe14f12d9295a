-- Those that were looked at are marked before the end of the line.
use Rattle.std.proofs.Common.{◌≡◌, ◌+◌, drop, length}
use Rattle.x509_report.specs.Dumps.{count_before}
use Rattle.x509_report.proofs.dumps.count_in.Given as goal

abbrev pub invariant-loop-value : goal.invariant-loop-value
invariant-loop-value l = record {
  count : l.count ≡ l.value-index;
  all : count_before (l.line.offset + length l.line.octets.now) l.values ≡ l.count + count_before (l.line.offset + length l.line.octets.now) (drop l.count l.values);
}
