use Rattle.x509_lists.specs.CertificateList.{plain_list, list_of}
use Rattle.x509_show.specs.ListReport.{list_text}
use Rattle.x509_show.proofs.Reports.{one_report}
use Rattle.x509_show.proofs.list_report.strict_list_report.Goals as goal

pub returns : goal.returns
returns c =
    one_report plain_list list_text (λ x. (x.0.now, list_of x.1)) c.args.input.now c.parse_x509_crl_strict.result c.front_report.result c.parse_x509_crl_strict.ensures.exact c.front_report.ensures
