use Rattle.std.proofs.Common.{subst, ap, ◌∙◌}
use Rattle.x509_report.specs.Files.{task_of}
use Rattle.x509_report.specs.Labels.{label_text}
use Rattle.x509_report.specs.Told.{Prints}
use Rattle.x509_report.proofs.Choices.{block_is}
use Rattle.x509_report.proofs.blocks.report_block.Goals as goal

pub returns : goal.returns
returns g c = subst (Prints c.args.printer.now c.report_kind.new.printer)
    (block_is (task_of c.args.asked.now c.args.file.now) c.args.index _ _ c.args.block.now _ c.at.ensures (c.label_text-label.ensures ∙ ap label_text c.label.ensures) c.kind_in-kind.ensures)
    c.report_kind.ensures
