use Rattle.std.proofs.Common.{None, take}
use Rattle.x509_report_lines.specs.Says.{SaysEach}
use Rattle.x509_report_objects.specs.RefusedValues.{value_report}
use Rattle.x509_report_objects.proofs.refused_values.say_each.Given as goal

abbrev pub invariant-loop-value : goal.invariant-loop-value
invariant-loop-value l = SaysEach l.initial.out l.out (value_report None) (take l.value-index l.values)
