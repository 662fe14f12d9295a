use Rattle.std.proofs.Common.{arith}
use Rattle.x509_extensions.proofs.Refusing.{comment_read, comment_refused}
use Rattle.x509_extensions.proofs.refusal.comment_refusal.Goals as goal

pub returns-in-Ok : goal.returns-in-Ok
returns-in-Ok c = comment_read c.args.value.now _ _ (λ k. omega (arith, c.type_inv.value k)) c.in-Ok.ensures.reads

pub returns-in-Err : goal.returns-in-Err
returns-in-Err c = comment_refused c.args.value.now c.in-Err.why (λ k. omega (arith, c.type_inv.value k)) c.in-Err.ensures.reads
