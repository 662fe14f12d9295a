-- What is left of the innermost element is one line.
use Rattle.std.proofs.Common.{◌≡◌, ◌≤◌, ◌∷◌, length, reverse, ap, ◌∙◌, arith, rules}
use Rattle.std.proofs.lemmas.List.{length-reverse}
use Rattle.x509_elements.specs.Elements.{nameless}
use Rattle.x509_elements.specs.Walks.{still, window}
use Rattle.x509_elements.specs.declared.line.What.TheVariants as whats
use Rattle.x509_elements.proofs.Walking.{nested_within, refused_step}
use Rattle.x509_elements.proofs.lines.DumpLines.refuse.Goals as goal

pub slice_bounds-octets-end : goal.slice_bounds-octets-end
slice_bounds-octets-end c =
    let s = c.args.self.now in
    let within : s.innermost.end ≤ length s.octets.now = nested_within s.innermost.end (reverse s.outer.items) (length s.octets.now) s.nested.2 in
    search (rules, within)

pub returns-clause-line : goal.returns-clause-line
returns-clause-line c =
    let s = c.args.self.now in
    let os = reverse s.outer.items in
    let within : s.innermost.end ≤ length s.octets.now = nested_within s.innermost.end os (length s.octets.now) s.nested.2 in
    let depth : length os ≡ c.len.result = omega (arith, length-reverse s.outer.items, s.outer.ok.0, c.len.ensures) in
    refused_step s.octets.now s.at s.innermost os c.args.why c.requires.some within c.requires.front
    ∙ ap (λ d. record { offset = s.at; depth = d; called = nameless; what = whats.Refused c.args.why; octets = window s.octets.now s.at s.innermost.end } ∷ still s.octets.now s.innermost.end (s.innermost ∷ os)) depth
