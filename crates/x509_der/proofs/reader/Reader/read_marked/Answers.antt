use Rattle.std.proofs.Common.{◌≡◌, arith, rules}
use Rattle.x509_der.specs.Plan.{got}
use Rattle.x509_der.proofs.reader.Reader.read_marked.Goals as goal

pub returns-in-Ok-clause-stands : goal.returns-in-Ok-clause-stands
returns-in-Ok-clause-stands g c =
    let r = g.Self.Reader in
    let reader = c.args.self.now in
    let read : (r.grammar reader).plan.read c.args.i.now ≡ got (r.view c.in-Ok.value) c.rest.result.now = search rules in
    r.stands_where reader c.args.i.now (r.view c.in-Ok.value) c.rest.result.now (λ k. omega (arith, c.type_inv.i k)) read

pub returns-in-Err-clause-refused : goal.returns-in-Err-clause-refused
returns-in-Err-clause-refused g c = λ tells own.
    let r = g.Self.Reader in
    let reader = c.args.self.now in
    r.refused_where reader c.args.i.now c.in-Err.e.why tells (λ k. omega (arith, c.type_inv.i k)) (search (rules, own))
