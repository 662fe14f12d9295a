use Rattle.std.proofs.Common.{◌≡◌, cond, Err, map, subst, sym, ap}
use Rattle.x509_lists.specs.CertificateList.{certificate_list}
use Rattle.x509_lists.specs.RevokedCertificate.{revoked_of}
use Rattle.x509_report_objects.specs.Attempts.{found_of}
use Rattle.x509_report.specs.Told.{Prints, alone}
use Rattle.x509_report.proofs.Choices.{entries_are, no_entries}
use Rattle.x509_report.proofs.Prints.{prints_nothing}
use Rattle.x509_report.proofs.reports.report_entries.Goals as goal

pub returns-in-Ok : goal.returns-in-Ok
returns-in-Ok g c =
    subst (λ ls. Prints c.args.printer.now c.report_each.new.printer (alone ls))
    (entries_are c.args.form c.args.fingerprints (found_of c.args.place.now) c.args.octets.now _ _ _ c.fingerprint-fingerprint.ensures c.in-Ok.ensures.reads (ap (map revoked_of) c.as_slice-entries.ensures))
    c.report_each.ensures

pub returns-else-is_out_of_memory : goal.returns-else-is_out_of_memory
returns-else-is_out_of_memory g c =
    let read = subst (λ b. cond b (Unit {0}) (certificate_list.read c.args.octets.now ≡ Err c.in-Err.refusal)) (sym c.if-is_out_of_memory.ensures) c.in-Err.ensures.reads in
    subst (λ ls. Prints c.args.printer.now c.args.printer.now (alone ls)) (sym (no_entries c.args.form c.args.fingerprints (found_of c.args.place.now) c.args.octets.now _ read))
    (prints_nothing c.args.printer.now)
