use Rattle.std.proofs.Common.{◌∙◌}
use Rattle.x509_fields.proofs.Shifts.{reversed-is}
use Rattle.x509_values.proofs.ns_cert_type.reversed.Goals as goal

pub returns : goal.returns
returns c = c.reverse_bits.ensures ∙ reversed-is c.args.octet
