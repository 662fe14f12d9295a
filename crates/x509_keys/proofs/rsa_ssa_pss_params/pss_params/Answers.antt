use Rattle.std.proofs.Common.{arith}
use Rattle.x509_keys.specs.RsaSsaPssParams.{pss_of, pss_fields, pss_laws}
use Rattle.x509_keys.proofs.ParametersRead.{reads_fields}
use Rattle.x509_keys.proofs.rsa_ssa_pss_params.pss_params.Goals as goal

pub returns-clause-exact : goal.returns-clause-exact
returns-clause-exact c =
    reads_fields pss_of pss_fields c.args.tag.0 c.args.contents.now c.read_fields.result pss_laws.agrees (λ k. omega (arith, c.type_inv.contents k)) c.read_fields.ensures
