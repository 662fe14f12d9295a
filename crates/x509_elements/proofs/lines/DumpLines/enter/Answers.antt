-- What stands in the element comes next, and then what stands behind it.
use Rattle.std.proofs.Common.{◌≡◌, ◌+◌, ◌≤◌, ◌∷◌, List, ℕ, not, length, reverse, take, sym, ap, subst, refl, ◌∙◌, arith, rules}
use Rattle.std.proofs.lemmas.List.{length-reverse}
use Rattle.x509_elements.specs.declared.open.Open.{Open}
use Rattle.x509_elements.specs.Fronts.{front_of}
use Rattle.x509_elements.specs.Nested.{AreNested}
use Rattle.x509_elements.specs.Walks.{still, window}
use Rattle.x509_elements.specs.declared.line.What.TheVariants as whats
use Rattle.x509_elements.proofs.Fronts.{front_number}
use Rattle.x509_elements.proofs.Walking.{element_step, front_of_window, nested_within, one_more}
use Rattle.x509_elements.specs.Cursors.{called_of, standing_of}
use Rattle.x509_elements.proofs.lines.DumpLines.enter.Goals as goal

pub slice_bounds-line-end : goal.slice_bounds-line-end
slice_bounds-line-end c =
    let s = c.args.self.now in
    let within : s.innermost.end ≤ length s.octets.now = nested_within s.innermost.end (reverse s.outer.items) (length s.octets.now) s.nested.2 in
    let here : s.at + c.args.front.now.own ≤ length s.octets.now = omega (arith, within, c.requires.within, c.requires.whole, c.requires.some) in
    search (rules, here)

pub invariant_of-self-2 : goal.invariant_of-self-2
invariant_of-self-2 c =
    let s = c.args.self.now in
    let f = c.args.front.now in
    let size = length s.octets.now in
    let stop = s.at + f.size + f.there in
    let around : Open = record { end = s.innermost.end; cursor = f.next } in
    let pushed : reverse c.push.new.self.items ≡ around ∷ reverse s.outer.items = one_more _ c.push.new.self.items s.outer.items around c.push.ensures.items (c.is_err.ensures.negation ∙ ap not c.if-is_err.false) in
    let number : (standing_of f.next).number ≡ (standing_of s.innermost.cursor).number + 1 = front_number (standing_of s.innermost.cursor) (window s.octets.now s.at s.innermost.end) (front_of f) c.requires.front in
    record {
      nested = (
        omega (arith, c.requires.within),
        omega (arith, ap (λ t. t.number) c.of.ensures),
        subst (λ os. AreNested stop os size) (sym pushed)
            (omega (arith, c.requires.whole, c.requires.some), omega (arith, number, s.nested.1, c.requires.own, c.requires.within), s.nested.2),
      );
    }

pub returns-clause-line : goal.returns-clause-line
returns-clause-line c =
    let s = c.args.self.now in
    let f = c.args.front.now in
    let octets = s.octets.now in
    let os = reverse s.outer.items in
    let within : s.innermost.end ≤ length octets = nested_within s.innermost.end os (length octets) s.nested.2 in
    let around : Open = record { end = s.innermost.end; cursor = f.next } in
    let inner : Open = record { end = s.at + f.size + f.there; cursor = c.of.result } in
    let depth : length os ≡ c.len.result = omega (arith, length-reverse s.outer.items, s.outer.ok.0, c.len.ensures) in
    let pushed : reverse c.push.new.self.items ≡ around ∷ os = one_more _ c.push.new.self.items s.outer.items around c.push.ensures.items (c.is_err.ensures.negation ∙ ap not c.if-is_err.false) in
    let what = whats.Element f.header f.size f.there in
    let rest = still octets (s.at + f.own) (inner ∷ around ∷ os) in
    element_step octets s.at s.innermost os (front_of f) inner around c.requires.some within c.requires.front refl c.of.ensures refl refl
    ∙ ap (λ d. record { offset = s.at; depth = d; called = called_of f.called; what = what; octets = take f.own (window octets s.at s.innermost.end) } ∷ rest) depth
    ∙ ap (λ (o : List ℕ). record { offset = s.at; depth = c.len.result; called = called_of f.called; what = what; octets = o } ∷ rest)
    (front_of_window octets s.at s.innermost.end f.own (omega (arith, c.requires.within, c.requires.whole, c.requires.some)))
    ∙ ap (λ (ps : List Open). record { offset = s.at; depth = c.len.result; called = called_of f.called; what = what; octets = window octets s.at (s.at + f.own) } ∷ still octets (s.at + f.own) (inner ∷ ps)) (sym pushed)
