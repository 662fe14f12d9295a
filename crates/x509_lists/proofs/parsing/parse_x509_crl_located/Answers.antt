use Rattle.std.proofs.Common.{arith}
use Rattle.std.proofs.lemmas.Result.{IfOk-weaker}
use Rattle.x509_lists.specs.CertificateList.{list_of}
use Rattle.x509_fields.proofs.SignedParts.{placed}
use Rattle.x509_lists.proofs.Windows.{list_stands}
use Rattle.x509_lists.proofs.parsing.parse_x509_crl_located.Goals as goal

pub returns-clause-stands : goal.returns-clause-stands
returns-clause-stands c =
    IfOk-weaker c.from_der_located.result _ _ (λ x. list_stands c.args.i.now (list_of x.1) x.0.now (λ k. omega (arith, c.type_inv.i k)))
    (placed _ c.from_der_located.result c.from_der_located.ensures.reads.accepted)
