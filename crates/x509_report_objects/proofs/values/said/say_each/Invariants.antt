use Rattle.std.proofs.Common.{map, take}
use Rattle.x509_report_lines.specs.Says.{SaysEach}
use Rattle.x509_report_objects.proofs.values.said.say_each.Given as goal

abbrev pub invariant-loop-value : goal.invariant-loop-value
invariant-loop-value g l = SaysEach l.initial.out l.out g.T.Said.report (map g.T.Said.view (take l.value-index l.values))
