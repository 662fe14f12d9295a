-- The windows of a list and of its signed part.
use Rattle.std.proofs.Common.{◌≡◌, ℕ, List, ◌++◌, ap, ◌∙◌}
use Rattle.x509_der.specs.Laws.{IsBytes}
use Rattle.x509_der.specs.Promises.{IsFront}
use Rattle.x509_der.specs.declared.error.Err.TheVariants.{Error}
use Rattle.x509_fields.specs.declared.error.X509Error.TheVariants as x509
use Rattle.x509_fields.specs.Signed.{Signed}
use Rattle.x509_fields.proofs.SignedParts.{signed_front_stands, plain_front_stands}
use Rattle.x509_lists.specs.TbsCertList.{TbsList, tbs_list, tbs_list_laws}
use Rattle.x509_lists.specs.CertificateList.{certificate_list, certificate_list_laws, plain_list, ListStands}

pub tbs_list_window : (place : List ℕ) (t : TbsList) (next : List ℕ) → tbs_list.Is place t next → place ≡ t.raw ++ next
unfolding tbs_list
tbs_list_window place t next is =
    let same : is.0 ≡ t.raw = ap (λ (f : List ℕ → TbsList). (f is.0).raw) is.3.3.3.3.3.3.0 ∙ ap (λ (x : TbsList). x.raw) is.4 in
    is.2 ∙ ap (λ (raw : List ℕ). raw ++ next) same

pub list_stands : (bytes : List ℕ) (s : Signed TbsList) (rest : List ℕ) → IsBytes bytes → IsFront certificate_list bytes s rest → ListStands bytes s rest
unfolding certificate_list
list_stands bytes s rest k front =
    signed_front_stands tbs_list (λ t. t.raw) tbs_list_window tbs_list_laws.laws.lawful certificate_list_laws.laws.lawful bytes s rest k front

-- one that stands plainly
pub plain_list_stands : (bytes : List ℕ) (s : Signed TbsList) (rest : List ℕ) → IsBytes bytes → IsFront plain_list bytes s rest → ListStands bytes s rest
unfolding certificate_list
plain_list_stands bytes s rest k front =
    plain_front_stands tbs_list (λ t. t.raw) tbs_list_window tbs_list_laws.laws.lawful certificate_list_laws.laws.lawful certificate_list_laws.marked (Error x509.Generic) bytes s rest k front
