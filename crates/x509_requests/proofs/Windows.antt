-- The windows of a request and of its info.
use Rattle.std.proofs.Common.{◌≡◌, ℕ, List, ◌++◌, ap, ◌∙◌}
use Rattle.x509_der.specs.Laws.{IsBytes}
use Rattle.x509_der.specs.Promises.{IsFront}
use Rattle.x509_der.specs.declared.error.Err.TheVariants.{Error}
use Rattle.x509_fields.specs.declared.error.X509Error.TheVariants as x509
use Rattle.x509_fields.specs.Signed.{Signed}
use Rattle.x509_fields.proofs.SignedParts.{signed_front_stands, plain_front_stands}
use Rattle.x509_requests.specs.RequestInfo.{RequestInfo, request_info, request_info_laws}
use Rattle.x509_requests.specs.Request.{certification_request, certification_request_laws, plain_request, RequestStands}

pub info_window : (place : List ℕ) (i : RequestInfo) (next : List ℕ) → request_info.Is place i next → place ≡ i.raw ++ next
unfolding request_info
info_window place i next is =
    let same : is.0 ≡ i.raw = ap (λ (f : List ℕ → RequestInfo). (f is.0).raw) is.3.3.3.3.3.3.0 ∙ ap (λ (x : RequestInfo). x.raw) is.4 in
    is.2 ∙ ap (λ (raw : List ℕ). raw ++ next) same

pub request_stands : (bytes : List ℕ) (s : Signed RequestInfo) (rest : List ℕ) → IsBytes bytes → IsFront certification_request bytes s rest → RequestStands bytes s rest
unfolding certification_request
request_stands bytes s rest k front =
    signed_front_stands request_info (λ i. i.raw) info_window request_info_laws.laws.lawful certification_request_laws.laws.lawful bytes s rest k front

-- one that stands plainly
pub plain_request_stands : (bytes : List ℕ) (s : Signed RequestInfo) (rest : List ℕ) → IsBytes bytes → IsFront plain_request bytes s rest → RequestStands bytes s rest
unfolding certification_request
plain_request_stands bytes s rest k front =
    plain_front_stands request_info (λ i. i.raw) info_window request_info_laws.laws.lawful certification_request_laws.laws.lawful certification_request_laws.marked (Error x509.Generic) bytes s rest k front
