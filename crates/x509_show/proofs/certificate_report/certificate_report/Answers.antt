use Rattle.std.proofs.Common.{false, ◌∙◌}
use Rattle.x509_certs.specs.Certificate.{certificate, certificate_of}
use Rattle.x509_show.specs.CertificateReport.{certificate_text}
use Rattle.x509_show.proofs.Reports.{one_report}
use Rattle.x509_show.proofs.certificate_report.certificate_report.Goals as goal

pub returns : goal.returns
returns c =
    let parser = c.with_deep_parse_extensions-parser.ensures in
    let loose = parser.same ∙ c.new.ensures.loose in
    one_report (certificate false) certificate_text (λ x. (x.0.now, certificate_of x.1)) c.args.input.now c.parse.result c.front_report.result
    (rw (parser.deep, loose) at c.parse.ensures.exact) c.front_report.ensures
