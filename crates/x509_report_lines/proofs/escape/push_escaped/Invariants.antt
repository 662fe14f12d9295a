use Rattle.x509_report_lines.specs.Kept.{Grows}
use Rattle.x509_report_lines.specs.Escape.{escaped_chars}
use Rattle.x509_report_lines.proofs.escape.push_escaped.Given as goal

abbrev pub invariant-loop-c : goal.invariant-loop-c
invariant-loop-c l = Grows l.initial.out l.out (escaped_chars l.yielded)
