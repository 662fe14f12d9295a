use Rattle.std.proofs.Common.{arith, true}
use Rattle.std.proofs.lemmas.Result.{IfOk-weaker}
use Rattle.x509_der.specs.declared.error.Err.TheVariants.{Error}
use Rattle.x509_der.proofs.Strict.{front_loosely}
use Rattle.x509_fields.specs.declared.error.X509Error.TheVariants as x509
use Rattle.x509_certs.specs.Certificate.{certificate, certificate_laws, certificate_of}
use Rattle.x509_certs.specs.Standing.{certificate_front_stands}
use Rattle.x509_elements.proofs.StrictReading.{ruled}
use Rattle.x509_elements.proofs.strict.parse_x509_certificate_strict_located.Goals as goal

pub returns-clause-stands : goal.returns-clause-stands
returns-clause-stands c =
    IfOk-weaker c.read_plainly.result _ _
    (λ x front. certificate_front_stands true c.args.i.now (certificate_of x.1) x.0.now (λ k. omega (arith, c.type_inv.i k))
    (front_loosely (Error x509.Generic) (certificate true) (certificate_laws true).marked c.args.i.now (certificate_of x.1) x.0.now (λ k. omega (arith, c.type_inv.i k)) front))
    (ruled _ c.read_plainly.result c.read_plainly.ensures.exact.accepted)
