use Rattle.std.proofs.Common.{sym, ◌∙◌}
use Rattle.x509_elements.specs.Fields.{field}
use Rattle.x509_elements.proofs.Choosing.{chosen_each, chosen_once}
use Rattle.x509_elements.proofs.field.choose.Goals as goal

pub returns-then-is_each : goal.returns-then-is_each
returns-then-is_each c =
    sym (chosen_each (λ f. field f.0.now f.1 f.2) c.args.fields.now c.loop-k.k _ c.args.header.now c.loop-k-test.true (sym c.if-fits.ensures) (sym c.if-is_each.ensures)) ∙ c.loop-k.invariant

pub returns-then-fits : goal.returns-then-fits
returns-then-fits c =
    sym (chosen_once (λ f. field f.0.now f.1 f.2) c.args.fields.now c.loop-k.k _ c.args.header.now c.loop-k-test.true (sym c.if-fits.ensures) (sym c.if-is_each.ensures)) ∙ c.loop-k.invariant
