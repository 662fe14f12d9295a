use Rattle.std.proofs.Common.{◌≡◌, take}
use Rattle.x509_der.specs.declared.oid.Oid.{Oid}
use Rattle.x509_fields.specs.Groups.{held, pointed}
use Rattle.x509_general_names.specs.InformationAccess.{locations}
use Rattle.x509_general_names.proofs.information_access.lent.Given as goal

abbrev pub invariant-loop-access : goal.invariant-loop-access
invariant-loop-access g l = (q : Oid) → pointed (held l.map q) ≡ locations (take l.access-index l.accesses) q
