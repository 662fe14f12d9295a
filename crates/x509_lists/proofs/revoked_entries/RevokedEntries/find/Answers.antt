use Rattle.std.proofs.Common.{◌≡◌, ◌∷◌, Some, Result, drop, ap, sym, subst, ◌∙◌}
use Rattle.x509_fields.specs.declared.error.X509Error.{X509Error}
use Rattle.x509_lists.specs.RevokedEntries.{entries_of, IsEntry}
use Rattle.x509_lists.specs.declared.revoked_certificate.RevokedCertificate.{RevokedCertificate}
use Rattle.x509_lists.proofs.Seeking.{member_at}
use Rattle.x509_lists.proofs.revoked_entries.RevokedEntries.find.Goals as goal

pub returns-in-Some-Ok : goal.returns-in-Some-Ok
returns-in-Some-Ok c =
    let sought = c.in-Some.ensures in
    let next = c.in-Some-Ok.ensures.steps in
    let stands : drop c.in-Some.position (entries_of c.args.self.now) ≡ next.0 ∷ _ = sought.stands ∙ sym sought.is_left ∙ sym c.iter.ensures ∙ next.1 in
    let read = subst (λ (r : Result RevokedCertificate X509Error). IsEntry next.0 r) c.in-Some-Ok.field-0-is next.2 in
    (sought.first, member_at (entries_of c.args.self.now) _ c.in-Some.position next.0 stands ∙ ap Some (sym read))
