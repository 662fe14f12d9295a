use Rattle.std.proofs.Common.{rules}
use Rattle.x509_fields.proofs.groups.add_to_group.Goals as goal

pub returns-clause-ok : goal.returns-clause-ok
returns-clause-ok g c = λ q. search rules
