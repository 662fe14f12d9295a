-- One part behind another.
use Rattle.std.proofs.Common.{◌++◌, List, ℕ, codes}
use Rattle.x509_report_lines.proofs.Joined.{both}
use Rattle.x509_report_lines.specs.PageElements.{closings}
use Rattle.x509_report_lines.specs.PageOctets.{octets_page}
use Rattle.x509_report.specs.Dumps.{marks_behind, section_end}
use Rattle.x509_report.specs.declared.options.Form.TheVariants as forms
use Rattle.x509_report.proofs.dumps.push_end.Goals as goal

pub returns : goal.returns
unfolding section_end
returns c = λ kept.
    let end = c.push_str.ensures kept in
    let shown = c.push_octets.ensures end.0 in
    let marked = c.push_marks_behind.ensures shown.0 in
    let closed = c.push_closings.ensures marked.0 in
    let marks : List ℕ = marks_behind forms.Html c.args.view.now c.args.octets.now c.args.values.now in
    let octets : List ℕ = octets_page c.args.octets.now in (
      closed.0,
      both _ _ _ (closings c.args.opened) (marks ++ (octets ++ codes "</section>\n")) closed.1
          (both _ _ _ marks (octets ++ codes "</section>\n") marked.1
          (both _ _ _ octets (codes "</section>\n") shown.1 end.1)),
    )
