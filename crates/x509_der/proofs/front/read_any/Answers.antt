use Rattle.std.proofs.Common.{arith, rules, List, ℕ, subst}
use Rattle.x509_der.specs.declared.look.Form.TheVariants.{Strict}
use Rattle.x509_der.specs.Reading.{Gives, element_at, element_of}
use Rattle.x509_der.specs.Leaves.{any}
use Rattle.x509_der.proofs.Readers.{element_exact}
use Rattle.x509_der.proofs.front.read_any.Goals as goal

pub returns : goal.returns
unfolding any
returns c =
    let reading = subst (λ (b : List ℕ). Gives (λ x. (x.0.now, element_of x.1)) c.element_and_rest.result (element_at Strict b)) c.look.ensures.bytes c.element_and_rest.ensures.reading in
    record {
      exact = element_exact (λ x. (x.0.now, element_of x.1)) c.element_and_rest.result Strict c.args.i.now (λ k. omega (arith, c.type_inv.i k)) reading;
      reading = search rules;
      tries = search rules;
      sizes = search rules;
    }
