-- The windows of a certificate and of its signed part.
use Rattle.std.proofs.Common.{◌≡◌, ℕ, Bool, List, ◌++◌, ap, ◌∙◌}
use Rattle.x509_fields.proofs.SignedParts.{signed_window}
use Rattle.x509_certs.specs.TbsCertificate.{Tbs, tbs}
use Rattle.x509_certs.specs.Certificate.{Certificate, certificate}

pub tbs_window : (deep : Bool) (place : List ℕ) (t : Tbs) (next : List ℕ) → (tbs deep).Is place t next → place ≡ t.raw ++ next
unfolding tbs
tbs_window deep place t next is =
    let same : is.0 ≡ t.raw = ap (λ (f : List ℕ → Tbs). (f is.0).raw) is.3.3.3.3.3.3.0 ∙ ap (λ (x : Tbs). x.raw) is.4 in
    is.2 ∙ ap (λ (raw : List ℕ). raw ++ next) same

pub certificate_window : (deep : Bool) (place : List ℕ) (c : Certificate) (next : List ℕ) → (certificate deep).Is place c next → place ≡ c.raw ++ next
unfolding certificate
certificate_window deep place c next is = signed_window (tbs deep) place c next is
