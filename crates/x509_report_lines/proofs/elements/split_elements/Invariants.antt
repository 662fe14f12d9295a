use Rattle.std.proofs.Common.{◌≡◌, List, ℕ, ◌++◌, length, map}
use Rattle.std.specs.List.{flat_map}
use Rattle.x509_report_lines.specs.Elements.{IsSplit}
use Rattle.x509_report_lines.proofs.elements.split_elements.Given as goal

-- with those that are left
abbrev pub invariant-elements : goal.invariant-elements
invariant-elements l = record {
  split : (more : List (List ℕ)) (rest : List ℕ) → IsSplit l.rest more rest → IsSplit l.fn.bytes (map (λ w. w.now) l.found.items ++ more) rest;
  whole : flat_map (λ w. w.now) l.found.items ++ l.rest ≡ l.fn.bytes;
}

abbrev pub decreases-elements : goal.decreases-elements
decreases-elements l = length l.rest
