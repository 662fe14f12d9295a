use Rattle.std.proofs.Common.{◌∙◌, length, sym, ap, arith}
use Rattle.x509_der.proofs.Sentences.{reads_where_ok, reads_where_err}
use Rattle.x509_der.proofs.from_der.FromDer.from_der_marked_located.Goals as goal

pub returns-in-Ok-clause-exact : goal.returns-in-Ok-clause-exact
returns-in-Ok-clause-exact g c =
    let d = g.Self.FromDer in
    let read = c.in-Ok.ensures.reads.reads in
    reads_where_ok d.grammar.plan d.grammar.lawful g.E.ReadError.is_memory d.grammar.takes_memory (λ x. (x.0.now, d.view x.1)) (c.rest.result, c.in-Ok.value, c.in-Ok.plain) c.args.i.now (λ k. omega (arith, c.type_inv.i k))
    (ap d.grammar.plan.read (sym c.look_before-place.ensures.bytes) ∙ read ∙ (cc))

pub returns-in-Err-clause-exact : goal.returns-in-Err-clause-exact
returns-in-Err-clause-exact g c =
    let d = g.Self.FromDer in
    reads_where_err d.grammar.plan d.grammar.lawful g.E.ReadError.is_memory d.grammar.takes_memory (λ x. (x.0.now, d.view x.1)) c.in-Err.refused c.located.result c.args.i.now (λ k. omega (arith, c.type_inv.i k)) (omega arith)
    c.located.ensures.why (omega (arith, c.located.ensures.at, ap length c.look_before-place.ensures.bytes)) (rw c.look_before-place.ensures.bytes at (rw c.look_before-place.ensures.outside at c.in-Err.ensures.reads.reads))
