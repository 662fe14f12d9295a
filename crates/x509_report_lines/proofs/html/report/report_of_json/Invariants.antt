use Rattle.std.proofs.Common.{◌≡◌, false, length}
use Rattle.std.specs.Prelude.{fold}
use Rattle.json.specs.Lex.{tokens}
use Rattle.x509_report_lines.specs.PageReports.{members_of, step}
use Rattle.x509_report_lines.proofs.html.report.report_of_json.Given as goal

abbrev pub invariant-tokens : goal.invariant-tokens
invariant-tokens l = l.folds.stopped ≡ false → fold step l.folds.so_far l.reader ≡ members_of (tokens l.fn.json)

abbrev pub decreases-tokens : goal.decreases-tokens
decreases-tokens l = length l.reader
