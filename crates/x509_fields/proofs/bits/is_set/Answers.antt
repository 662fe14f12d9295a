use Rattle.std.proofs.Common.{rules, sym, arith}
use Rattle.x509_fields.proofs.Shifts.{beyond}
use Rattle.x509_fields.proofs.bits.is_set.Goals as goal

pub returns-in-None : goal.returns-in-None
returns-in-None c = sym (beyond c.args.flags c.args.bit (search rules) (omega (arith, c.in-None.ensures)))
