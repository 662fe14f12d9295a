use Rattle.x509_keys.proofs.UnknownKey.{unknown_key}
use Rattle.x509_keys.proofs.key_kind.KeyKind.of.Goals as goal

pub returns-else-eq-6 : goal.returns-else-eq-6
returns-else-eq-6 c = unknown_key c.args.octets.now c.if-eq.ensures c.if-eq-2.ensures c.if-eq-3.ensures c.if-eq-4.ensures c.if-eq-5.ensures c.if-eq-6.ensures
