use Rattle.std.proofs.Common.{◌∙◌}
use Rattle.x509_fields.proofs.Shifts.{reversed-is}
use Rattle.x509_fields.proofs.bits.reversed.Goals as goal

pub returns : goal.returns
returns c = c.from.ensures ∙ (c.reverse_bits.ensures ∙ reversed-is c.args.octet)
