-- No element is open but one that ends here.
use Rattle.std.proofs.Common.{◌≤◌, ◌∷◌, length, reverse, sym, ap, subst, refl, ◌∙◌, arith}
use Rattle.x509_elements.specs.Nested.{AreNested}
use Rattle.x509_elements.specs.Walks.{still}
use Rattle.x509_elements.proofs.Walking.{left_behind, nested_within, none_left, none_open}
use Rattle.x509_elements.proofs.lines.DumpLines.end.Goals as goal

pub invariant_of-self : goal.invariant_of-self
invariant_of-self c =
    let s = c.args.self.now in
    let size = length s.octets.now in
    let within : s.at ≤ size = nested_within s.at (s.innermost ∷ reverse s.outer.items) size s.nested in
    record { nested = (omega arith, omega (arith, within, s.nested.1), subst (λ os. AreNested size os size) (sym (none_left c.clear.new.self.items (ap length c.clear.ensures.items))) (omega arith)) }

pub returns-clause-left : goal.returns-clause-left
returns-clause-left c =
    let s = c.args.self.now in
    let size = length s.octets.now in
    left_behind s.octets.now size (record { end = size; cursor = s.innermost.cursor }) (reverse c.clear.new.self.items) refl
    ∙ ap (still s.octets.now size) (none_left c.clear.new.self.items (ap length c.clear.ensures.items))
    ∙ none_open s.octets.now size
