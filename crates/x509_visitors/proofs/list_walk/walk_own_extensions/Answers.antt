use Rattle.x509_visitors.specs.ListEvents.{of_extensions}
use Rattle.x509_visitors.proofs.Lifted.{walks-lifted}
use Rattle.x509_visitors.proofs.list_walk.walk_own_extensions.Goals as goal

pub returns : goal.returns
returns g c = walks-lifted g.V.ListVisits.visit_step of_extensions _ _ _ _ c.walk_extensions.ensures
