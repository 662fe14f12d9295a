use Rattle.std.proofs.Common.{arith, rules, List, ℕ, subst}
use Rattle.x509_der.specs.declared.look.Form.TheVariants.{Loose}
use Rattle.x509_der.specs.Laws.{IsBytes}
use Rattle.x509_der.specs.Reading.{Gives, header_at}
use Rattle.x509_der.proofs.Readers.{header_exact}
use Rattle.x509_der.proofs.Looks.{header_sizes}
use Rattle.x509_der.proofs.front.read_header_loose.Goals as goal

pub returns : goal.returns
returns c =
    let fits : IsBytes c.args.i.now = λ k. omega (arith, c.type_inv.i k) in
    let reading = subst (λ (b : List ℕ). Gives (λ x. (x.0.now, x.1)) c.header_in.result (header_at Loose b)) c.look.ensures.bytes c.header_in.ensures.reading in
    record {
      exact = header_exact (λ x. (x.0.now, x.1)) c.header_in.result Loose c.args.i.now fits reading;
      reading = reading;
      tries = search rules;
      sizes = header_sizes (λ x. (x.0.now, x.1)) c.header_in.result Loose c.args.i.now fits reading;
    }
