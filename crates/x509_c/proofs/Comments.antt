-- Where a comment is refused.
use Rattle.std.proofs.Common.{◌≡◌, ℕ, ◌+◌, List, length, arith, refl, sym, ◌∙◌}
use Rattle.x509_der.specs.declared.error.Err.{Err as Refusal}
use Rattle.x509_der.specs.Laws.{Accumulates, IsBytes}
use Rattle.x509_der.specs.Leaves.{ia5}
use Rattle.x509_der.specs.Plan.{added}
use Rattle.x509_fields.specs.declared.error.X509Error.{X509Error}
use Rattle.x509_values.specs.NsComment.{ns_comment}
use Rattle.x509_values.proofs.Comments.{ns_comment_laws}

adds : Accumulates added
adds n m outside = omega arith

-- a text stops where its element begins
stops_here : (buffer : List ℕ) → ns_comment.stop added buffer 0 ≡ length buffer + 0
unfolding ns_comment ia5
stops_here buffer = refl

-- at its first octet
pub comment_refused : (buffer : List ℕ) (why : Refusal X509Error) (left : ℕ) → IsBytes buffer → ns_comment.Refuses buffer why left → 0 + left ≡ length buffer
comment_refused buffer why left bytes refuses =
    let here : left + 0 ≡ length buffer + 0 = sym (ns_comment_laws.field.agrees.stops added adds buffer why left 0 bytes refuses) ∙ stops_here buffer in
    omega (arith, here)
