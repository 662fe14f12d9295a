use Rattle.std.proofs.Common.{◌≡◌, ap, ◌∙◌, ◌++◌, ◌∷◌, [], List, ℕ, refl, map, sym}
use Rattle.std.proofs.lemmas.Iterator.{YieldsList-from_chars}
use Rattle.std.proofs.lemmas.Iterator.Consumers.{YieldsList-end}
use Rattle.x509_report_lines.specs.PageEscape.{html_chars}
use Rattle.x509_report_lines.proofs.html.escape.push_chars.Goals as goal

map_same : (xs : List ℕ) → map (λ x. x) xs ≡ xs
map_same [] = refl
map_same (x ∷ xs) = ap (λ ys. x ∷ ys) (map_same xs)

pub returns : goal.returns
returns c = λ kept.
    let t = YieldsList-end (YieldsList-from_chars c.args.text.now c.utf8.text cc) c.loop-c.yielded _ c.loop-c.yielded_by _ _ c.in-None.is c.next.ensures.steps in
    let said = c.loop-c.invariant kept in
    (said.0, said.1 ∙ ap (λ cs. c.args.out.now.so_far ++ html_chars cs) (sym (map_same c.loop-c.yielded) ∙ t.0))
