use Rattle.std.proofs.Common.{◌≡◌, ◌++◌}
use Rattle.std.specs.Vec.Iter.{into_iter_items}
use Rattle.x509_der.specs.declared.oid.Oid.{Oid}
use Rattle.x509_fields.specs.Groups.{held}
use Rattle.x509_general_names.specs.InformationAccess.{locations}
use Rattle.x509_general_names.proofs.information_access.owned.Given as goal

abbrev pub invariant-loop-access : goal.invariant-loop-access
invariant-loop-access g l = record {
  so_far : l.yielded ++ into_iter_items l.access-iterator ≡ l.fn.accesses.items;
  groups : (q : Oid) → held l.map q ≡ locations l.yielded q;
}
