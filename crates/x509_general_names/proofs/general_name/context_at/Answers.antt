use Rattle.std.proofs.Common.{rules}
use Rattle.x509_der.specs.Looks.{behind}
use Rattle.x509_der.specs.Reading.{element_of}
use Rattle.x509_general_names.proofs.Elements.{any_sizes}
use Rattle.x509_general_names.proofs.general_name.context_at.Goals as goal

pub returns-2-clause-sizes : goal.returns-2-clause-sizes
returns-2-clause-sizes g c = any_sizes c.args.place.now.bytes.now (element_of c.in-Ok-converted.field-0) (behind c.args.place.now.bytes.now) c.args.place.now.octets (search rules)
