use Rattle.std.proofs.Common.{◌≡◌, ◌++◌}
use Rattle.std.specs.Vec.Iter.{into_iter_items}
use Rattle.x509_der.specs.declared.oid.Oid.{Oid}
use Rattle.x509_fields.specs.Groups.{held}
use Rattle.x509_values.specs.PolicyMapping.{subjects}
use Rattle.x509_values.proofs.policy_mapping.PolicyMappings.into_hashmap.Given as goal

abbrev pub invariant-loop-mapping : goal.invariant-loop-mapping
invariant-loop-mapping g l = record {
  so_far : l.yielded ++ into_iter_items l.mapping-iterator ≡ l.fn.self.mappings;
  groups : (issuer : Oid) → held l.map issuer ≡ subjects l.yielded issuer;
}
