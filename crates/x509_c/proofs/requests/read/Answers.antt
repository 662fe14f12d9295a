-- What is promised of requests, or of plain ones.
use Rattle.std.proofs.Common.{ℕ, Bool, List, true, subst, sym, Bor}
use Rattle.x509_der.specs.Promises.{ReadsWhere}
use Rattle.x509_fields.specs.Errors.{is_x509_memory}
use Rattle.x509_fields.specs.Signed.{Signed}
use Rattle.x509_requests.specs.Request.{certification_request_of}
use Rattle.x509_requests.specs.RequestInfo.{RequestInfo}
use Rattle.x509_requests.specs.declared.request.X509CertificationRequest.{X509CertificationRequest}
use Rattle.x509_c.specs.Requests.{request_by}
use Rattle.x509_c.proofs.requests.read.Goals as goal

abbrev seen : Bor (List ℕ) × X509CertificationRequest → List ℕ × Signed RequestInfo
seen x = (x.0.now, certification_request_of x.1)

pub returns-then-strict : goal.returns-then-strict
returns-then-strict c =
    subst (λ (s : Bool). ReadsWhere is_x509_memory true seen (request_by s) c.args.der.now c.parse_located.result) (sym c.if-strict.true) c.parse_located.ensures.exact

pub returns-else-strict : goal.returns-else-strict
returns-else-strict c =
    subst (λ (s : Bool). ReadsWhere is_x509_memory true seen (request_by s) c.args.der.now c.from_der_located.result) (sym c.if-strict.false) c.from_der_located.ensures
