use Rattle.std.proofs.Common.{arith}
use Rattle.std.proofs.lemmas.Result.{IfOk-weaker}
use Rattle.x509_lists.specs.CertificateList.{list_of}
use Rattle.x509_lists.proofs.Windows.{plain_list_stands}
use Rattle.x509_elements.proofs.StrictReading.{ruled}
use Rattle.x509_elements.proofs.strict.parse_x509_crl_strict_located.Goals as goal

pub returns-clause-stands : goal.returns-clause-stands
returns-clause-stands c =
    IfOk-weaker c.read_plainly.result _ _ (λ x. plain_list_stands c.args.i.now (list_of x.1) x.0.now (λ k. omega (arith, c.type_inv.i k)))
    (ruled _ c.read_plainly.result c.read_plainly.ensures.exact.accepted)
