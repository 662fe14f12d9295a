use Rattle.std.proofs.Common.{arith}
use Rattle.std.proofs.lemmas.Result.{IfOk-weaker}
use Rattle.x509_requests.specs.Request.{certification_request_of}
use Rattle.x509_requests.proofs.Windows.{plain_request_stands}
use Rattle.x509_requests.proofs.parsing.parse_x509_csr_strict.Goals as goal

pub returns-clause-stands : goal.returns-clause-stands
returns-clause-stands c =
    IfOk-weaker c.parse.result _ _ (λ x. plain_request_stands c.args.i.now (certification_request_of x.1) x.0.now (λ k. omega (arith, c.type_inv.i k))) c.parse.ensures.exact.accepted
