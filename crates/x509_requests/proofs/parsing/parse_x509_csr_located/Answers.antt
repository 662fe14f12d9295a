use Rattle.std.proofs.Common.{arith}
use Rattle.std.proofs.lemmas.Result.{IfOk-weaker}
use Rattle.x509_requests.specs.Request.{certification_request_of}
use Rattle.x509_fields.proofs.SignedParts.{placed}
use Rattle.x509_requests.proofs.Windows.{request_stands}
use Rattle.x509_requests.proofs.parsing.parse_x509_csr_located.Goals as goal

pub returns-clause-stands : goal.returns-clause-stands
returns-clause-stands c =
    IfOk-weaker c.from_der_located.result _ _ (λ x. request_stands c.args.i.now (certification_request_of x.1) x.0.now (λ k. omega (arith, c.type_inv.i k)))
    (placed _ c.from_der_located.result c.from_der_located.ensures.reads.accepted)
