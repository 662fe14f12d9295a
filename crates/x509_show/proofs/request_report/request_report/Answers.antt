use Rattle.x509_requests.specs.Request.{certification_request, certification_request_of}
use Rattle.x509_show.specs.RequestReport.{request_text}
use Rattle.x509_show.proofs.Reports.{one_report}
use Rattle.x509_show.proofs.request_report.request_report.Goals as goal

pub returns : goal.returns
returns c =
    one_report certification_request request_text (λ x. (x.0.now, certification_request_of x.1)) c.args.input.now c.from_der.result c.front_report.result c.from_der.ensures c.front_report.ensures
