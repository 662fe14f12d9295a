use Rattle.x509_report.proofs.ElementLines.{three_parts}
use Rattle.x509_report.proofs.dumps.report_line.Goals as goal

pub returns-clause-lines : goal.returns-clause-lines
returns-clause-lines g c =
    c.put_text.ensures _ (three_parts _ _ _ _ _ _ _ c.new-text.ensures c.push_told-open.ensures.text c.push_mark_in.ensures c.push_value_marks.ensures)
