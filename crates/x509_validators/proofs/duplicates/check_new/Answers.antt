use Rattle.x509_validators.proofs.Among.{IsSetOf-more}
use Rattle.x509_validators.proofs.duplicates.check_new.Goals as goal

pub returns-clause-seen : goal.returns-clause-seen
returns-clause-seen g c = λ ids were. IsSetOf-more ids c.args.seen.now c.insert.new.self c.args.oid were c.in-Ok.ensures.updates.0
