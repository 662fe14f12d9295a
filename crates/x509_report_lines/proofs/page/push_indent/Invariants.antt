use Rattle.x509_report_lines.specs.Kept.{Grows}
use Rattle.x509_report_lines.specs.Lines.{indent}
use Rattle.x509_report_lines.proofs.page.push_indent.Given as goal

abbrev pub invariant-loop-level : goal.invariant-loop-level
invariant-loop-level l = Grows l.initial.text l.text (indent l._level)
