use Rattle.std.proofs.Common.{true, Ok, List, ℕ, length, sym, ap, ◌∙◌, rules}
use Rattle.x509_der.proofs.RunLoop.{own_refusal}
use Rattle.x509_der.proofs.MarkLoop.{marks_stop}
use Rattle.x509_fields.specs.Errors.{is_x509_memory}
use Rattle.x509_lists.specs.RevokedCertificate.{Revoked, revoked, revoked_of}
use Rattle.x509_lists.proofs.Passing.{pass_one, all_passed}
use Rattle.x509_lists.proofs.entries_run.pass_run.Goals as goal

pub loop-after-preserved : goal.loop-after-preserved
loop-after-preserved c =
    pass_one c.args.i.now c.loop-after.rest.now c.in-Ok.after.now c.loop-after.count c.loop-after.plain c.in-Ok.marked c.args.tries.now c.loop-after.tries c.read_apart.new.tries (revoked_of c.in-Ok._certificate) c.loop-after.invariant c.in-Ok.ensures.reads
    c.in-Ok.ensures.marks c.in-Ok.ensures.tries.grows c.in-Ok.ensures.tries.count (λ away. (let never = (c.in-Ok.ensures.tries.foreign away).0 in cc)) c.in-Ok.ensures.tries.least

pub returns-in-Err-clause-reads : goal.returns-in-Err-clause-reads
returns-in-Err-clause-reads c =
    let refusal = own_refusal is_x509_memory true c.in-Err.e (revoked.read c.loop-after.rest.now) (cc) c.in-Err.ensures.reads in
    let all = all_passed _ _ _ _ _ _ c.in-Err.e c.loop-after.invariant refusal in
    record {
      reads = ap Ok (all ∙ ap (λ (xs : List Revoked). (c.loop-after.rest.now, xs)) (sym (ap (λ (m : List ℕ × List Revoked). m.1) all)));
      marks = marks_stop revoked _ c.loop-after.rest.now c.in-Err.e _ refusal c.loop-after.invariant.marks;
      grows = search rules;
      count = search rules;
      within = search rules;
      foreign = search rules;
      least = search rules;
    }

pub returns-in-Err-clause-count : goal.returns-in-Err-clause-count
returns-in-Err-clause-count c =
    let refusal = own_refusal is_x509_memory true c.in-Err.e (revoked.read c.loop-after.rest.now) (cc) c.in-Err.ensures.reads in
    let all = all_passed _ _ _ _ _ _ c.in-Err.e c.loop-after.invariant refusal in
    sym c.loop-after.invariant.counted ∙ ap (λ (m : List ℕ × List Revoked). length m.1) (sym all)
