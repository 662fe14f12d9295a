-- One part behind another.
use Rattle.std.proofs.Common.{◌++◌, List, ℕ, ap, ◌∙◌}
use Rattle.x509_elements.specs.Elements.{line_of}
use Rattle.x509_report_lines.specs.Texts.{columns, value_text}
use Rattle.x509_report_lines.proofs.Joined.{both, both_as}
use Rattle.x509_report_lines.proofs.element_line.push_element.Goals as goal

pub returns : goal.returns
returns c = λ kept.
    let h = c.args.header.now in
    let value = c.push_value.ensures kept in
    let cut = c.push_cut.ensures value.0 in
    let called = c.push_called.ensures cut.0 in
    let tag = c.push_tag.ensures called.0 in
    let front = c.push_columns.ensures tag.0 in
    let begun = front.1 ∙ ap (λ (form : List ℕ). c.args.text.now.so_far ++ columns (line_of c.args.line.now) c.args.size h.length form) c.form_word.ensures in (
      front.0,
      both_as _ _ _ _ _ _
          (both _ _ _ _ _ (both _ _ _ _ _ (both _ _ _ _ _ begun tag.1) called.1) cut.1)
          value.1
          (ap (value_text h) c.behind.ensures),
    )
