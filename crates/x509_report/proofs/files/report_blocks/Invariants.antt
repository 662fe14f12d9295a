use Rattle.std.proofs.Common.{drop}
use Rattle.x509_report.specs.Files.{blocks_told, task_of}
use Rattle.x509_report.proofs.Prints.{Leads}
use Rattle.x509_report.proofs.files.report_blocks.Given as goal

-- with those that are left
abbrev pub invariant-loop-index : goal.invariant-loop-index
invariant-loop-index g l =
    let task = task_of l.asked l.file in Leads l.initial.printer l.printer (blocks_told task l.index (drop l.index l.blocks)) (blocks_told task 0 l.blocks)
