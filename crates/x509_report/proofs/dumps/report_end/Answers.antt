use Rattle.x509_report.proofs.ElementLines.{one_part}
use Rattle.x509_report.proofs.dumps.report_end.Goals as goal

pub returns : goal.returns
returns g c = c.put_text.ensures _ (one_part _ _ _ c.new-text.ensures c.push_behind.ensures)
