use Rattle.std.proofs.Common.{drop, map}
use Rattle.x509_lists.specs.RevokedCertificate.{revoked_of}
use Rattle.x509_report_objects.specs.Attempts.{found_of}
use Rattle.x509_report.specs.Objects.{entry_lines}
use Rattle.x509_report.specs.Told.{alone}
use Rattle.x509_report.proofs.Prints.{Leads}
use Rattle.x509_report.proofs.reports.report_each.Given as goal

-- with the lines that are left
abbrev pub invariant-loop-number : goal.invariant-loop-number
invariant-loop-number g l = Leads l.initial.printer l.printer
    (alone (entry_lines l.form (found_of l.place) l.fingerprint l.number (map revoked_of (drop l.number l.entries))))
    (alone (entry_lines l.form (found_of l.place) l.fingerprint 0 (map revoked_of l.entries)))
