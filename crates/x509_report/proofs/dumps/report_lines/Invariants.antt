-- The lines that are left lead to the end.
use Rattle.x509_elements.specs.Elements.{elements_of}
use Rattle.x509_elements.specs.Walks.{left}
use Rattle.x509_report.specs.Dumps.{marked_lines}
use Rattle.x509_report.specs.Told.{alone}
use Rattle.x509_report.specs.Views.{part_of}
use Rattle.x509_report.proofs.Prints.{Leads}
use Rattle.x509_report.proofs.dumps.report_lines.Given as goal

abbrev pub invariant-loop-found : goal.invariant-loop-found
invariant-loop-found g l = Leads l.initial.printer l.printer (alone (marked_lines l.form l.view l.octets l.left l.opened (left l.found-iterator)))
    (alone (marked_lines l.form l.view l.octets l.fn.values 0 (elements_of (part_of l.view) l.octets)))
