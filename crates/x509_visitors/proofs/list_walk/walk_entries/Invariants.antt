use Rattle.std.proofs.Common.{take, map}
use Rattle.x509_fields.specs.Steps.{Took}
use Rattle.x509_lists.specs.RevokedCertificate.{revoked_of}
use Rattle.x509_visitors.specs.ListEvents.{revoked_certificate}
use Rattle.x509_visitors.proofs.list_walk.walk_entries.Given as goal

-- the visits of the entries so far were accepted
abbrev pub invariant-loop-certificate : goal.invariant-loop-certificate
invariant-loop-certificate g l = Took g.V.ListVisits.visit_step l.initial.visitor (map revoked_certificate (map revoked_of (take l.certificate-index l.certificates))) l.visitor
