use Rattle.std.proofs.Common.{◌≡◌, length}
use Rattle.std.specs.Slice.Iter.{iter_rest}
use Rattle.x509_names.specs.Names.{attributes_left}
use Rattle.x509_names.proofs.name_iter.AttributeIterIterator.next.Given as goal

abbrev pub invariant-relative : goal.invariant-relative
invariant-relative l = attributes_left l.self ≡ attributes_left l.initial.self

abbrev pub decreases-relative : goal.decreases-relative
decreases-relative l = length (iter_rest l.self.relative)
