-- What ends here leaves nothing behind.
use Rattle.std.proofs.Common.{◌≡◌, length, reverse, sym, ap, ◌∙◌, arith}
use Rattle.x509_elements.specs.Walks.{still}
use Rattle.x509_elements.proofs.Walking.{left_behind, none_left, none_open, one_less}
use Rattle.x509_elements.proofs.lines.DumpLines.leave.Goals as goal

pub loop-self-preserved : goal.loop-self-preserved
loop-self-preserved c =
    let s = c.loop-self.self in
    let over : s.at ≡ s.innermost.end = omega (arith, s.nested.0, c.loop-self-test.true) in
    record {
      left =
          sym (left_behind s.octets.now s.at s.innermost (reverse s.outer.items) over
          ∙ ap (still s.octets.now s.at) (one_less c.pop.new.self.items s.outer.items c.in-Some.open c.in-Some.ensures.items))
          ∙ c.loop-self.invariant.left;
      octets = c.loop-self.invariant.octets;
      at = c.loop-self.invariant.at;
    }

pub returns-in_default-clause-over : goal.returns-in_default-clause-over
returns-in_default-clause-over c = λ over.
    let s = c.loop-self.self in
    let over : s.at ≡ s.innermost.end = omega (arith, s.nested.0, c.loop-self-test.true) in
    let none : length c.pop.new.self.items ≡ 0 = omega (arith, c.pop.new.self.ok.0, c.in_default.ensures.cases.1) in
    left_behind s.octets.now s.at s.innermost (reverse c.pop.new.self.items) over
    ∙ ap (still s.octets.now s.at) (none_left c.pop.new.self.items none)
    ∙ none_open s.octets.now s.at
