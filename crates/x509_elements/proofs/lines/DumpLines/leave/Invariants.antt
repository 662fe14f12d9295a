-- Leaving an element changes nothing of what is still to come.
use Rattle.std.proofs.Common.{◌≡◌, length}
use Rattle.x509_elements.specs.Walks.{left}
use Rattle.x509_elements.proofs.lines.DumpLines.leave.Given as goal

abbrev pub invariant-loop-self : goal.invariant-loop-self
invariant-loop-self l = record {
  left : left l.self ≡ left l.initial.self;
  octets : l.self.octets.now ≡ l.initial.self.octets.now;
  at : l.self.at ≡ l.initial.self.at;
}

abbrev pub decreases-loop-self : goal.decreases-loop-self
decreases-loop-self l = length l.self.outer.items
