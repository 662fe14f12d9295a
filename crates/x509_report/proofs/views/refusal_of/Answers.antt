-- The refusal is that of the grammar, and so is its octet.
use Rattle.std.proofs.Common.{arith, rules, Ok}
use Rattle.x509_elements.proofs.Judging.{not_excused, read_where}
use Rattle.x509_fields.specs.Errors.{is_x509_memory}
use Rattle.x509_report.proofs.Seen.{is_refused, is_taken}
use Rattle.x509_report.proofs.views.refusal_of.Goals as goal

pub returns-in-Ok : goal.returns-in-Ok
returns-in-Ok g c =
    let t = g.T.FromDer in
    is_taken t.grammar.plan c.args.octets.now _ (read_where is_x509_memory t.grammar.takes_memory (λ x. (x.0.now, t.view x.1)) t.grammar.plan t.grammar.lawful c.args.octets.now (λ k. omega (arith, c.type_inv.octets k)) (Ok _) c.in-Ok.ensures)

pub returns-else-is_out_of_memory : goal.returns-else-is_out_of_memory
returns-else-is_out_of_memory g c =
    let t = g.T.FromDer in
    is_refused (λ x. (x.0.now, t.view x.1)) t.grammar.plan c.args.octets.now c.in-Err.refusal t.grammar.lawful.agrees (λ k. omega (arith, c.type_inv.octets k)) c.in-Err.ensures
    (not_excused is_x509_memory t.grammar.takes_memory c.in-Err.refusal.why (search rules))
