use Rattle.std.proofs.Common.{◌≡◌, ◌∙◌, Some, drop, length, sym, ap}
use Rattle.x509_der.specs.declared.error.Err.{Err as Refusal}
use Rattle.x509_der.specs.Plan.{got}
use Rattle.x509_der.specs.Unsigned.{unsigned_number}
use Rattle.x509_der.proofs.Results.{got_parts}
use Rattle.x509_fields.specs.declared.error.X509Error.{X509Error}
use Rattle.x509_lists.specs.RevokedCertificate.{revoked, revoked_of}
use Rattle.x509_revoked.proofs.Placed.{stands_first}
use Rattle.x509_revoked.proofs.entries_index.EntriesIndex.find.Goals as goal

pub returns-in-Ok : goal.returns-in-Ok
returns-in-Ok c =
    let index = c.args.self.now in
    let stands = stands_first index.octets.now (length index.entries.items)
    (unsigned_number c.args.serial.now) c.find_counted-found.result.0 c.in-Some.offset index.holds c.in-Some.is c.find_counted-found.ensures.found in
    let entry = c.in-Ok.certificate in
    let read : revoked.read (drop c.in-Some.offset index.octets.now) ≡ got (revoked_of entry) c.in-Ok.field-0-0.now = ap revoked.read (sym c.octets_from-entry.ensures) ∙ c.in-Ok.ensures.reads in
    (stands.position, stands.first, stands.there.member ∙ ap Some (got_parts (Refusal X509Error) stands.there.entry (revoked_of entry) stands.there.next c.in-Ok.field-0-0.now (sym stands.there.read ∙ read)).0)
