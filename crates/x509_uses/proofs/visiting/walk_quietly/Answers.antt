use Rattle.x509_fields.proofs.Walking.{accepted-by-defaults, same-by-defaults}
use Rattle.x509_uses.proofs.visiting.walk_quietly.Goals as goal

pub returns-clause-answer : goal.returns-clause-answer
returns-clause-answer c = accepted-by-defaults _ _ _ _ c.walk.ensures

pub returns-clause-same : goal.returns-clause-same
returns-clause-same c = same-by-defaults _ _ _ _ c.walk.ensures
