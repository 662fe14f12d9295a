use Rattle.std.proofs.Common.{refl}
use Rattle.std.proofs.lemmas.Str.{is_utf8-from_IsUtf8}
use Rattle.x509_values.specs.NsComment.{ns_comment}
use Rattle.x509_values.proofs.Comments.{not_utf8, converted}
use Rattle.x509_values.proofs.ns_comment.read_ns_comment.Goals as goal

pub returns-in-Ok-from_utf8-clause-reads : goal.returns-in-Ok-from_utf8-clause-reads
unfolding ns_comment
returns-in-Ok-from_utf8-clause-reads c = rw (c.in-Err.ensures.reads, is_utf8-from_IsUtf8 c.args.i.now c.in-Ok-from_utf8.ensures.cases.1, c.in-Ok-from_utf8.ensures.cases.0) refl

pub returns-in-Err-from_utf8-clause-reads : goal.returns-in-Err-from_utf8-clause-reads
unfolding ns_comment
returns-in-Err-from_utf8-clause-reads c = rw (c.in-Err.ensures.reads, not_utf8 c.args.i.now c.in-Err-from_utf8.ensures.cases.0, converted c.in-Err.why c.convert.result c.convert.ensures) refl
