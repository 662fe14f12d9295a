use Rattle.std.proofs.Common.{◌≡◌, false, length}
use Rattle.std.specs.Prelude.{fold}
use Rattle.json.specs.Lex.{tokens}
use Rattle.x509_report_lines.specs.Lines.{step, page_of}
use Rattle.x509_report_lines.proofs.page.lines_of_json.Given as goal

abbrev pub invariant-tokens : goal.invariant-tokens
invariant-tokens l = l.lines.stopped ≡ false → fold step l.lines.so_far l.reader ≡ page_of (tokens l.fn.json)

abbrev pub decreases-tokens : goal.decreases-tokens
decreases-tokens l = length l.reader
