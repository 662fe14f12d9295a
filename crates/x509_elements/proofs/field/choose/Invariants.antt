-- No field so far may stand there.
use Rattle.std.proofs.Common.{◌≡◌, map, drop}
use Rattle.x509_elements.specs.Fields.{chosen, field}
use Rattle.x509_elements.proofs.field.choose.Given as goal

abbrev pub invariant-loop-k : goal.invariant-loop-k
invariant-loop-k l = chosen (map (λ f. field f.0.now f.1 f.2) (drop l.k l.fields)) l.header ≡ chosen (map (λ f. field f.0.now f.1 f.2) (drop l.from l.fields)) l.header
