use Rattle.std.proofs.Common.{◌≡◌, length}
use Rattle.x509_names.specs.Names.{attributes_left, matching_left}
use Rattle.x509_names.proofs.name_iter.AttributeByOidIterator.next.Given as goal

abbrev pub invariant-loop-attribute : goal.invariant-loop-attribute
invariant-loop-attribute l = record {
  oid : l.self.oid ≡ l.initial.self.oid;
  rest : matching_left l.self ≡ matching_left l.initial.self;
}

abbrev pub decreases-loop-attribute : goal.decreases-loop-attribute
decreases-loop-attribute l = length (attributes_left l.self.attributes)
