use Rattle.std.proofs.Common.{◌≡◌, ◌+◌, ◌∷◌, ◌∙◌, List, drop, map, refl, sym, ap, arith}
use Rattle.std.proofs.lemmas.List.{drop_more}
use Rattle.x509_der.specs.Unsigned.{unsigned_number}
use Rattle.x509_lists.specs.RevokedCertificate.{Revoked, revoked_of}
use Rattle.x509_lists.specs.declared.revoked_certificate.RevokedCertificate.{RevokedCertificate}
use Rattle.x509_lists.proofs.Issuers.{is_of_read, has_number, walked_on}
use Rattle.x509_lists.proofs.find_for.TbsCertList.find_for.Goals as goal

pub loop-certificate-preserved : goal.loop-certificate-preserved
loop-certificate-preserved c =
    let revoked = c.as_slice-revoked.result.now in
    let i = c.loop-certificate.certificate-index in
    let entry : RevokedCertificate = c.certificate-item.result in
    let others : List Revoked = map revoked_of (drop (i + 1) revoked) in
    let first : map revoked_of (drop i revoked) ≡ revoked_of entry ∷ others =
    ap (map revoked_of) (drop_more revoked i entry c.loop-certificate-test.true ∙ ap (λ x. x ∷ drop (i + 1) revoked) (sym c.certificate-item.is)) in
    let is = is_of_read c.args.issuer.now.raw.now c.loop-certificate.ours c.in_ok-ours.ours (revoked_of entry) entry _ refl c.as_raw-in-loop-certificate.ensures c.in_ok-ours.ensures in
    let has = has_number (unsigned_number c.args.serial.now) c.eq.result (revoked_of entry) entry refl c.eq.ensures in
    record {
      counted = omega (arith, c.loop-certificate.invariant.counted);
      walked = walked_on _ _ _ _ c.loop-certificate.ours c.in_ok-ours.ours c.eq.result c.loop-certificate.position _ (revoked_of entry) others c.loop-certificate.invariant.walked first is has c.if-ours-eq.false;
    }
