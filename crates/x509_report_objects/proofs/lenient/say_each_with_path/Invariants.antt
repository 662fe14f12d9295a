use Rattle.std.proofs.Common.{take}
use Rattle.x509_report_lines.specs.Says.{SaysEach}
use Rattle.x509_report_objects.specs.Leniencies.{use_with_path}
use Rattle.x509_report_objects.proofs.lenient.say_each_with_path.Given as goal

abbrev pub invariant-loop-used : goal.invariant-loop-used
invariant-loop-used l = SaysEach l.initial.out l.out (use_with_path l.part l.octets) (take l.used-index l.uses)
