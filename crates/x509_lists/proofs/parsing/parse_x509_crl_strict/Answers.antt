use Rattle.std.proofs.Common.{arith}
use Rattle.std.proofs.lemmas.Result.{IfOk-weaker}
use Rattle.x509_lists.specs.CertificateList.{list_of}
use Rattle.x509_lists.proofs.Windows.{plain_list_stands}
use Rattle.x509_lists.proofs.parsing.parse_x509_crl_strict.Goals as goal

pub returns-clause-stands : goal.returns-clause-stands
returns-clause-stands c =
    IfOk-weaker c.parse.result _ _ (λ x. plain_list_stands c.args.i.now (list_of x.1) x.0.now (λ k. omega (arith, c.type_inv.i k))) c.parse.ensures.exact.accepted
