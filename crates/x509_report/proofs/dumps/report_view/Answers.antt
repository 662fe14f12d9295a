-- The values that are marked are those of the object as it is seen.
use Rattle.std.proofs.Common.{subst, ap, ◌∙◌}
use Rattle.x509_elements.specs.Elements.{elements_of}
use Rattle.x509_elements.specs.RefusedValues.{refused_values}
use Rattle.x509_report.specs.Dumps.{dump_lines, marked_lines}
use Rattle.x509_report.specs.Told.{Prints, alone}
use Rattle.x509_report.specs.Views.{part_of}
use Rattle.x509_report.proofs.dumps.report_view.Goals as goal

pub returns-in-Ok : goal.returns-in-Ok
unfolding dump_lines
returns-in-Ok g c =
    let view = c.args.view.now in
    let octets = c.args.octets.now in
    subst (λ vs. Prints c.args.printer.now c.report_lines.new.printer (alone (marked_lines c.args.form view octets vs 0 (elements_of (part_of view) octets))))
    (c.as_slice.ensures.value ∙ c.in-Ok.ensures ∙ ap (λ p. refused_values p octets) c.part_of.ensures) c.report_lines.ensures
