use Rattle.x509_visitors.specs.CertificateEvents.{of_extensions}
use Rattle.x509_visitors.proofs.Lifted.{walks-lifted}
use Rattle.x509_visitors.proofs.certificate_walk.walk_own_extensions.Goals as goal

pub returns : goal.returns
returns g c = walks-lifted g.V.CertificateVisits.visit_step of_extensions _ _ _ _ c.walk_extensions.ensures
