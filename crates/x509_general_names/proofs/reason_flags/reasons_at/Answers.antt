use Rattle.std.proofs.Common.{rules}
use Rattle.x509_der.specs.Looks.{behind}
use Rattle.x509_der.specs.Primitives.{bit_string}
use Rattle.x509_general_names.proofs.Foreign.{bits_foreign}
use Rattle.x509_general_names.proofs.reason_flags.reasons_at.Goals as goal

pub returns-2-clause-foreign : goal.returns-2-clause-foreign
returns-2-clause-foreign g c = λ some. bits_foreign c.args.number c.args.place.now.bytes.now (bit_string c.in-Ok-converted.field-0) (behind c.args.place.now.bytes.now) c.args.place.now.octets (search rules) some
