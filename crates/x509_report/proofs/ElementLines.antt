-- The text of a line of an element: one part behind another.
use Rattle.std.proofs.Common.{◌≡◌, ℕ, List, [], ◌++◌, append_assoc, ap, ◌∙◌}
use Rattle.x509_report_lines.specs.Kept.{Grows, Kept, kept}
use Rattle.x509_report.specs.Told.{Holds}

pub one_part : (start first : Kept (List ℕ)) (a : List ℕ) → start ≡ kept [] → Grows start first a → Holds first a
one_part start first a e f = λ whole. (f whole).1 ∙ ap (λ k. k.so_far ++ a) e

pub three_parts : (start first second third : Kept (List ℕ)) (a b c : List ℕ) → start ≡ kept [] → Grows start first a → Grows first second b → Grows second third c → Holds third (a ++ (b ++ c))
three_parts start first second third a b c e f g h = λ whole.
    let z = h whole in
    let y = g z.0 in
    z.1 ∙ ap (λ (t : List ℕ). t ++ c) (y.1 ∙ ap (λ (t : List ℕ). t ++ b) (one_part start first a e f y.0)) ∙ append_assoc a b c
