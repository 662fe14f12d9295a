use Rattle.x509_report_lines.specs.Kept.{Grows}
use Rattle.x509_report_lines.specs.PageElements.{closings}
use Rattle.x509_report_lines.proofs.html.element.push_closings.Given as goal

abbrev pub invariant-loop-part : goal.invariant-loop-part
invariant-loop-part l = Grows l.initial.out l.out (closings l._part)
