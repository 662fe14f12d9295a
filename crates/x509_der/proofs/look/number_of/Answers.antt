use Rattle.std.proofs.Common.{sym}
use Rattle.x509_der.proofs.Numbers.{too_large}
use Rattle.x509_der.proofs.look.number_of.Goals as goal

pub returns-then-number : goal.returns-then-number
returns-then-number c =
    sym (too_large c.loop-octet.octet-index c.loop-octet.number c.args.octets.now c.loop-octet-test.true c.loop-octet.invariant.value c.if-number.true)
