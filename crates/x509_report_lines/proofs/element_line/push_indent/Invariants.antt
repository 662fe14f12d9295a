use Rattle.std.proofs.Common.{replicate}
use Rattle.x509_report_lines.specs.Kept.{Grows}
use Rattle.x509_report_lines.proofs.element_line.push_indent.Given as goal

abbrev pub invariant-loop-level : goal.invariant-loop-level
invariant-loop-level l = Grows l.initial.text l.text (replicate l._level 32)
