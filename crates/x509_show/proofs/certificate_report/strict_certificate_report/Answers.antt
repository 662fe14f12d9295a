use Rattle.std.proofs.Common.{true}
use Rattle.x509_certs.specs.Certificate.{certificate_by, certificate_of}
use Rattle.x509_show.specs.CertificateReport.{certificate_text}
use Rattle.x509_show.proofs.Reports.{one_report}
use Rattle.x509_show.proofs.certificate_report.strict_certificate_report.Goals as goal

pub returns : goal.returns
returns c =
    one_report (certificate_by true true) certificate_text (λ x. (x.0.now, certificate_of x.1)) c.args.input.now c.parse_x509_certificate_strict.result c.front_report.result c.parse_x509_certificate_strict.ensures.exact c.front_report.ensures
