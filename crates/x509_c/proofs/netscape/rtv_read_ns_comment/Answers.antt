-- The comment that was read, or why there is none.
use Rattle.std.proofs.Common.{refl, rules, arith}
use Rattle.x509_values.specs.NsComment.{ns_comment}
use Rattle.x509_values.proofs.Comments.{ns_comment_laws}
use Rattle.x509_c.proofs.Comments.{comment_refused}
use Rattle.x509_c.proofs.Telling.{tells_whole_read, tells_whole_refused}
use Rattle.x509_c.proofs.netscape.rtv_read_ns_comment.Goals as goal

pub returns-in-Ok : goal.returns-in-Ok
returns-in-Ok c = tells_whole_read ns_comment c.args.value.now _ _ _ _ c.args.at.now ns_comment_laws.field.agrees (λ k. omega (arith, c.type_inv.value k)) c.in-Ok.ensures.reads (search rules)

pub returns-in-Err : goal.returns-in-Err
returns-in-Err c =
    tells_whole_refused ns_comment c.args.value.now _ _ _ c.args.at.now _ _ ns_comment_laws.field.agrees (λ k. omega (arith, c.type_inv.value k)) c.in-Err.ensures.reads
    (λ left refuses. comment_refused c.args.value.now c.in-Err.why left (λ k. omega (arith, c.type_inv.value k)) refuses) refl c.refused.ensures.at c.refused.ensures.status
