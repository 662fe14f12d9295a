use Rattle.std.proofs.Common.{take}
use Rattle.x509_report_lines.specs.Says.{SaysEach}
use Rattle.x509_report_objects.specs.RefusedValues.{report_with_path}
use Rattle.x509_report_objects.proofs.refused_values.say_each_with_path.Given as goal

abbrev pub invariant-loop-value : goal.invariant-loop-value
invariant-loop-value l = SaysEach l.initial.out l.out (report_with_path l.part l.octets) (take l.value-index l.values)
