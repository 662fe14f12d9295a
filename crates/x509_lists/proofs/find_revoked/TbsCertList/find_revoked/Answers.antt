use Rattle.std.proofs.Common.{rules, tests, ◌≡◌, ◌==◌, ◌∙◌, ℕ, ◌+◌, List, [], ◌∷◌, map, cond, Some, refl, sym, ap}
use Rattle.std.specs.List.{position, position_from}
use Rattle.std.proofs.lemmas.Iterator.{YieldsList-from_slice}
use Rattle.std.proofs.lemmas.Iterator.Adapters.{position_from-zero}
use Rattle.std.proofs.lemmas.Iterator.Search.{position_from_yields_List}
use Rattle.x509_der.specs.Unsigned.{unsigned_number}
use Rattle.x509_lists.specs.FindRevoked.{first_of, serial_numbers}
use Rattle.x509_lists.specs.RevokedCertificate.{revoked_of}
use Rattle.x509_lists.specs.declared.revoked_certificate.RevokedCertificate.{RevokedCertificate}
use Rattle.x509_lists.proofs.find_revoked.TbsCertList.find_revoked.Goals as goal

seen_from : (n i : ℕ) (es : List RevokedCertificate) → position_from (λ r. unsigned_number r.user_certificate == n) i es ≡ position_from (λ m. m == n) i (serial_numbers (map revoked_of es))
seen_from n i [] = refl
seen_from n i (e ∷ es) = ap (cond (unsigned_number e.user_certificate == n) (Some i)) (seen_from n (i + 1) es)

-- the first entry with the number is the first of their numbers
seen : (n : ℕ) (es : List RevokedCertificate) → position (λ r. unsigned_number r.user_certificate == n) es ≡ first_of (serial_numbers (map revoked_of es)) n
seen n es =
    position_from-zero (λ r. unsigned_number r.user_certificate == n) es ∙ seen_from n 0 es ∙ sym (position_from-zero (λ m. m == n) (serial_numbers (map revoked_of es)))

pub returns : goal.returns
returns c =
    let n = unsigned_number c.args.serial.now in
    position_from_yields_List (λ (r : RevokedCertificate). unsigned_number r.user_certificate == n) _ _ c.position.result c.position.ensures.ran
    (YieldsList-from_slice c.as_slice.result.now (search rules)) (λ x b q k. search (rules, tests))
    ∙ ap (position (λ (r : RevokedCertificate). unsigned_number r.user_certificate == n)) c.as_slice.ensures ∙ seen n c.args.self.now.revoked_certificates
