use Rattle.std.proofs.Common.{subst, arith}
use Rattle.x509_der.specs.Reading.{Gives}
use Rattle.x509_keys.specs.declared.key_kind.KeyKind.{KeyKind}
use Rattle.x509_keys.specs.PublicKey.{public_key_of, key_of_kind, key_or_invalid}
use Rattle.x509_keys.proofs.ParsedKey.{parses}
use Rattle.x509_keys.proofs.public_key.parse_key.Goals as goal

pub returns-clause-exact : goal.returns-clause-exact
returns-clause-exact c =
    let reads = subst (λ (kind : KeyKind). Gives public_key_of c.read_key.result (key_or_invalid ((key_of_kind kind).read c.args.bits.now))) c.of.ensures c.read_key.ensures in
    parses c.args.algorithm.now c.args.bits.now c.read_key.result (λ k. omega (arith, c.type_inv.bits k)) reads
