-- What is taken is what the grammar reads, with its mark.
use Rattle.std.proofs.Common.{Ok, ap, sym, ◌∙◌, arith}
use Rattle.x509_elements.specs.Judgements.{judged_with, marked}
use Rattle.x509_elements.proofs.Judging.{read_where}
use Rattle.x509_elements.proofs.judged.judge_as.Goals as goal

pub returns-in-Ok : goal.returns-in-Ok
returns-in-Ok g c =
    let d = g.T.FromDer in
    let plan = d.grammar.plan in
    let octets = c.args.place.now in
    let read = read_where g.E.ReadError.is_memory d.grammar.takes_memory (λ x. (x.0.now, d.view x.1)) plan d.grammar.lawful octets (λ k. omega (arith, c.type_inv.place k)) (Ok _) c.in-Ok.ensures.exact in
    c.marked.ensures ∙ ap marked c.in-Ok.ensures.marks ∙ sym (ap (λ r. judged_with r (plan.marks octets)) read)
