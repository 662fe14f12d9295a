use Rattle.std.proofs.Common.{true, arith}
use Rattle.std.proofs.lemmas.Result.{IfOk-weaker}
use Rattle.x509_der.specs.Promises.{ReadsExactly}
use Rattle.x509_fields.specs.Errors.{is_x509_memory}
use Rattle.x509_certs.specs.Certificate.{certificate_of, certificate_by}
use Rattle.x509_certs.proofs.StrictParts.{strict_part}
use Rattle.x509_certs.proofs.parsing.parse_x509_certificate_strict.Goals as goal

pub returns-clause-exact : goal.returns-clause-exact
returns-clause-exact c = rw (c.with_strict.ensures.same, c.with_strict.ensures.strict, c.new.ensures.deep) at c.parse.ensures.exact

pub returns-clause-strict_part : goal.returns-clause-strict_part
returns-clause-strict_part c =
    let exact : ReadsExactly is_x509_memory true (λ x. (x.0.now, certificate_of x.1)) (certificate_by true true) c.args.i.now c.parse.result =
    rw (c.with_strict.ensures.same, c.with_strict.ensures.strict, c.new.ensures.deep) at c.parse.ensures.exact in
    IfOk-weaker c.parse.result _ _ (λ x front. strict_part true c.args.i.now (certificate_of x.1) x.0.now (λ k. omega (arith, c.type_inv.i k)) front) exact.accepted
