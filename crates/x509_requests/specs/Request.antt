-- Certification requests (RFC 2986, 4.2).
use Rattle.std.specs.Prelude.{ℕ, List}
use Rattle.x509_der.specs.declared.error.Err.TheVariants.{Error}
use Rattle.x509_der.specs.Laws.{IsMarkedElement}
use Rattle.x509_der.specs.Plan.{plain_only}
use Rattle.x509_der.specs.Primitives.{bit_string}
use Rattle.x509_der.proofs.Marked.{plain_only_laws}
use Rattle.x509_fields.specs.Algorithm.{algorithm_of}
use Rattle.x509_fields.specs.declared.error.X509Error.TheVariants as x509
use Rattle.x509_fields.specs.Errors.{is_x509_memory}
use Rattle.x509_fields.specs.Fields.{Field}
use Rattle.x509_fields.specs.Signed.{Signed, signed, signed_heads, signed_laws, SignedStands}
use Rattle.x509_requests.specs.RequestInfo.{RequestInfo, request_info, info_of, info_heads, request_info_laws}
use Rattle.x509_requests.specs.declared.request.X509CertificationRequest.{X509CertificationRequest}

abbrev pub certification_request_of : X509CertificationRequest → Signed RequestInfo
certification_request_of r = record {
  raw = r.raw.now;
  tbs = info_of r.certification_request_info;
  signature_algorithm = algorithm_of r.signature_algorithm;
  signature_value = bit_string r.signature_value;
}

-- CertificationRequest ::= SEQUENCE { certificationRequestInfo CertificationRequestInfo, signatureAlgorithm AlgorithmIdentifier,
--     signature BIT STRING }
unfoldable pub certification_request : Field (Signed RequestInfo)
certification_request = signed request_info

-- requests that stand plainly, alone
abbrev pub plain_request : Field (Signed RequestInfo)
plain_request = plain_only (Error x509.Generic) certification_request

-- A front of the bytes was read as this request. The request's window is that front; its info's window is that part, whole, and read
-- again by its own reader it gives an equal value and no rest.
abbrev pub RequestStands : List ℕ → Signed RequestInfo → List ℕ → Type 0
RequestStands = SignedStands request_info (λ i. i.raw)

abbrev pub certification_request_heads : Signed RequestInfo → ℕ
certification_request_heads = signed_heads info_heads

pub certification_request_laws : IsMarkedElement is_x509_memory certification_request
unfolding certification_request
certification_request_laws = signed_laws request_info request_info_laws

pub plain_request_laws : IsMarkedElement is_x509_memory plain_request
plain_request_laws = plain_only_laws is_x509_memory x509.Generic certification_request certification_request_laws
