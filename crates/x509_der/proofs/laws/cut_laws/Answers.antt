use Rattle.x509_der.proofs.Members.{cut_exists, cut_unique}
use Rattle.x509_der.proofs.laws.cut_laws.Goals as goal

pub returns-clause-exists : goal.returns-clause-exists
returns-clause-exists c = λ window fits. let h = cut_exists window fits in (h.members, h.tail, h.cut)

pub returns-clause-only : goal.returns-clause-only
returns-clause-only c = cut_unique
