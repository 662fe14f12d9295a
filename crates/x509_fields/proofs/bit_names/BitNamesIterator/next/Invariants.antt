use Rattle.std.proofs.Common.{◌≡◌, length}
use Rattle.x509_fields.specs.BitNames.{names_left}
use Rattle.x509_fields.proofs.bit_names.BitNamesIterator.next.Given as goal

-- the bits that were looked at have no name to give
abbrev pub invariant-loop-self : goal.invariant-loop-self
invariant-loop-self l = names_left l.self ≡ names_left l.initial.self

abbrev pub decreases-loop-self : goal.decreases-loop-self
decreases-loop-self l = length l.self.names.now
