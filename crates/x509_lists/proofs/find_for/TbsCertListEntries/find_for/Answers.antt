use Rattle.std.proofs.Common.{◌∙◌, Some, Result, sym, ap, subst}
use Rattle.x509_der.specs.Unsigned.{unsigned_number}
use Rattle.x509_fields.specs.declared.error.X509Error.{X509Error}
use Rattle.x509_lists.specs.RevokedEntries.{IsEntry}
use Rattle.x509_lists.specs.declared.revoked_certificate.RevokedCertificate.{RevokedCertificate}
use Rattle.x509_lists.proofs.Issuers.{is_of_read, has_number, is_here, walked_on}
use Rattle.x509_lists.proofs.Seeking.{member_at}
use Rattle.x509_lists.proofs.find_for.TbsCertListEntries.find_for.Goals as goal

pub returns-then-ours-eq : goal.returns-then-ours-eq
returns-then-ours-eq c =
    let next = c.in-Some.ensures.steps in
    let before = c.loop-read.invariant.walked in
    let read = subst (λ (r : Result RevokedCertificate X509Error). IsEntry next.0 r) c.in-Ok.is next.2 in
    let is = is_of_read c.args.issuer.now.raw.now c.loop-read.ours c.in_ok-ours.ours next.0 c.in-Ok.entry _ read c.as_raw-in-Some.ensures c.in_ok-ours.ensures in
    let has = has_number (unsigned_number c.args.serial.now) c.eq.result next.0 c.in-Ok.entry read c.eq.ensures in
    (is_here _ _ _ _ c.loop-read.ours c.in_ok-ours.ours c.eq.result c.loop-read.position _ next.0 _ before next.1 is has c.if-ours-eq.true, member_at _ _ c.loop-read.position next.0 (before.rest ∙ next.1) ∙ ap Some (sym read))

pub loop-read-preserved : goal.loop-read-preserved
loop-read-preserved c =
    let next = c.in-Some.ensures.steps in
    let before = c.loop-read.invariant.walked in
    let read = subst (λ (r : Result RevokedCertificate X509Error). IsEntry next.0 r) c.in-Ok.is next.2 in
    let is = is_of_read c.args.issuer.now.raw.now c.loop-read.ours c.in_ok-ours.ours next.0 c.in-Ok.entry _ read c.as_raw-in-Some.ensures c.in_ok-ours.ensures in
    let has = has_number (unsigned_number c.args.serial.now) c.eq.result next.0 c.in-Ok.entry read c.eq.ensures in
    record { can_next = tt; is_finite = tt; walked = walked_on _ _ _ _ c.loop-read.ours c.in_ok-ours.ours c.eq.result c.loop-read.position _ next.0 _ before next.1 is has c.if-ours-eq.false }
