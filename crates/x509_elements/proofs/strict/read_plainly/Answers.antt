use Rattle.std.proofs.Common.{arith, sym}
use Rattle.x509_elements.proofs.StrictReading.{read_plainly_so, refused_plainly}
use Rattle.x509_elements.proofs.strict.read_plainly.Goals as goal

pub returns-in-Ok : goal.returns-in-Ok
returns-in-Ok g c = read_plainly_so _ g.T.FromDer.grammar.plan c.args.object c.args.i.now g.T.FromDer.grammar.takes_memory c.requires.memory _ c.in-Ok.ensures.exact

pub returns-in-Err-2 : goal.returns-in-Err-2
returns-in-Err-2 g c =
    refused_plainly _ g.T.FromDer.grammar.plan c.args.object c.args.i.now g.T.FromDer.grammar.takes_memory c.requires.memory g.T.FromDer.grammar.lawful.agrees g.T.FromDer.grammar.marked.marks (λ k. omega (arith, c.type_inv.i k))
    c.requires.judged c.in-Err.refusal c.at_first_rule.result (sym c.if-is_out_of_memory.ensures) c.in-Err.ensures.exact c.at_first_rule.ensures
