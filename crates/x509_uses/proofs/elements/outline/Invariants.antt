-- The headers so far are those of the members so far.
use Rattle.std.proofs.Common.{◌≡◌, ℕ, List, map, take}
use Rattle.x509_der.specs.Cut.{Cut}
use Rattle.x509_der.specs.Reading.{Element}
use Rattle.x509_uses.proofs.elements.outline.Given as goal

abbrev pub invariant-loop-k : goal.invariant-loop-k
invariant-loop-k l = (members : List Element) (tail : List ℕ) → Cut l.contents members tail → l.headers.items ≡ map (λ e. e.header) (take l.k members)
