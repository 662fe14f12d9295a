use Rattle.std.proofs.Common.{◌≡◌, ◌∙◌, length, sym, ap, arith}
use Rattle.x509_der.specs.Plan.{got}
use Rattle.x509_der.proofs.Sentences.{reads_where_ok, reads_where_err}
use Rattle.x509_der.proofs.reader.Reader.parse_located.Goals as goal

pub returns-in-Ok-clause-exact : goal.returns-in-Ok-clause-exact
returns-in-Ok-clause-exact g c =
    let r = g.Self.Reader in
    let reader = c.args.self.now in
    let read = c.in-Ok.ensures.reads.reads in
    reads_where_ok (r.grammar reader).plan (r.grammar reader).lawful g.E.ReadError.is_memory (r.grammar reader).takes_memory (λ x. (x.0.now, r.view x.1)) (c.rest.result, c.in-Ok.value) c.args.i.now (λ k. omega (arith, c.type_inv.i k))
    (ap (r.grammar reader).plan.read (sym c.look_before-place.ensures.bytes) ∙ read ∙ (cc))

pub returns-in-Ok-clause-stands : goal.returns-in-Ok-clause-stands
returns-in-Ok-clause-stands g c =
    let r = g.Self.Reader in
    let reader = c.args.self.now in
    let read : (r.grammar reader).plan.read c.args.i.now ≡ got (r.view c.in-Ok.value) c.rest.result.now = ap (r.grammar reader).plan.read (sym c.look_before-place.ensures.bytes) ∙ c.in-Ok.ensures.reads.reads ∙ (cc) in
    r.stands_where reader c.args.i.now (r.view c.in-Ok.value) c.rest.result.now (λ k. omega (arith, c.type_inv.i k)) read

pub returns-in-Err-clause-exact : goal.returns-in-Err-clause-exact
returns-in-Err-clause-exact g c =
    let r = g.Self.Reader in
    let reader = c.args.self.now in
    reads_where_err (r.grammar reader).plan (r.grammar reader).lawful g.E.ReadError.is_memory (r.grammar reader).takes_memory (λ x. (x.0.now, r.view x.1)) c.in-Err.e c.located.result c.args.i.now (λ k. omega (arith, c.type_inv.i k)) (omega arith)
    c.located.ensures.why (omega (arith, c.located.ensures.at, ap length c.look_before-place.ensures.bytes)) (rw c.look_before-place.ensures.bytes at (rw c.look_before-place.ensures.outside at c.in-Err.ensures.reads.reads))
