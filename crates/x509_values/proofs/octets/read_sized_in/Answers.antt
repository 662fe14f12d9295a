use Rattle.std.proofs.Common.{◌≡◌, ℕ, List, length, Err, sym, ap, ◌∙◌}
use Rattle.x509_der.specs.declared.error.BerError.{BerError}
use Rattle.x509_der.specs.declared.error.Err.{Err as Refusal}
use Rattle.x509_der.specs.Plan.{Outcome, and_then, then_stop}
use Rattle.x509_values.specs.Octets.{fixed, number_of, sized}
use Rattle.x509_values.proofs.BigEndian.{number_stops}
use Rattle.x509_values.proofs.octets.read_sized_in.Goals as goal

pub returns-in-Err-clause-reads : goal.returns-in-Err-clause-reads
unfolding sized
returns-in-Err-clause-reads g c =
    let place = c.args.i.now.bytes.now in
    let outside = c.args.i.now.outside in
    let more = g.L.Outside.adds in
    let cut : (number_of 2).read place ≡ Err c.in-Err.why = ap (number_of 2).read (sym c.bytes.ensures) ∙ c.in-Err.ensures in
    rw (c.refuse_at.ensures.why, c.refuse_at.ensures.left) (
      ap (λ (x : Outcome (Refusal BerError) ℕ). and_then x (λ n. (fixed n).read)) cut,
      ap (λ (x : Outcome (Refusal BerError) ℕ). then_stop x ((number_of 2).stop more place outside) (λ n next. (fixed n).stop more next outside)) cut
          ∙ (number_stops 2 more place outside c.in-Err.why cut ∙ ap (λ (octets : List ℕ). more (length octets) outside) (sym c.bytes-in-Err.ensures)),
    )
