use Rattle.std.proofs.Common.{arith}
use Rattle.x509_keys.specs.RsaAesOaepParams.{oaep_of, oaep_fields, oaep_laws}
use Rattle.x509_keys.proofs.ParametersRead.{reads_fields}
use Rattle.x509_keys.proofs.rsa_aes_oaep_params.oaep_params.Goals as goal

pub returns-clause-exact : goal.returns-clause-exact
returns-clause-exact c =
    reads_fields oaep_of oaep_fields c.args.tag.0 c.args.contents.now c.read_fields.result oaep_laws.agrees (λ k. omega (arith, c.type_inv.contents k)) c.read_fields.ensures
