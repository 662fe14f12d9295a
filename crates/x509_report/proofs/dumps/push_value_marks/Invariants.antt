use Rattle.std.proofs.Common.{take}
use Rattle.x509_report_lines.specs.Kept.{Grows}
use Rattle.x509_report.specs.Dumps.{value_marks}
use Rattle.x509_report.proofs.dumps.push_value_marks.Given as goal

abbrev pub invariant-loop-value : goal.invariant-loop-value
invariant-loop-value l = Grows l.initial.text l.text (value_marks l.form (take l.value-index l.values))
