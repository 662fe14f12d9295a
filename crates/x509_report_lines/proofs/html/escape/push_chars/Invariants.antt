use Rattle.x509_report_lines.specs.Kept.{Grows}
use Rattle.x509_report_lines.specs.PageEscape.{html_chars}
use Rattle.x509_report_lines.proofs.html.escape.push_chars.Given as goal

abbrev pub invariant-loop-c : goal.invariant-loop-c
invariant-loop-c l = Grows l.initial.out l.out (html_chars l.yielded)
