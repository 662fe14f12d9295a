-- A reader that tells the octet of its refusal tells that of the grammar.
use Rattle.std.proofs.Common.{◌≡◌, ℕ, ◌+◌, List, Err, Bool, true, false, ap, ◌∙◌, arith}
use Rattle.x509_der.specs.declared.error.Err.{Err as Refusal}
use Rattle.x509_der.specs.declared.error.Located.{Located}
use Rattle.x509_der.specs.Laws.{Agrees, IsBytes}
use Rattle.x509_der.specs.Plan.{Outcome, added}
use Rattle.x509_der.specs.Promises.{ReadsWhere, is_excused}
use Rattle.x509_fields.specs.declared.error.X509Error.{X509Error}
use Rattle.x509_fields.specs.Errors.{is_x509_memory}
use Rattle.x509_fields.specs.Fields.{Field}
use Rattle.x509_report_objects.specs.Attempts.{refused_of}
use Rattle.x509_report_objects.specs.Objects.{Told, refused_at, refused_told}

pub refused_where : {A X : Type 0} {takes_memory : Bool} (view : X → List ℕ × A) (plan : Field A) (octets : List ℕ) (e : Located X509Error) → Agrees plan → IsBytes octets
    → ReadsWhere is_x509_memory takes_memory view plan octets (Err e) → is_excused is_x509_memory takes_memory e.why ≡ false → (plan.read octets ≡ Err e.why) × (refused_at plan octets ≡ e.at)
refused_where view plan octets e agrees k reads other =
    let there = reads.located other in
    let left = there.0 in
    let stops : plan.stop added octets 0 ≡ left + 0 = agrees.stops added (λ n m outside. omega arith) octets e.why left 0 k there.1 in
    (agrees.refusal octets e.why left k there.1, omega (arith, stops, there.2))

-- what is told of such a refusal
pub told_where : {A X : Type 0} (told : Outcome (Refusal X509Error) A → Told) (view : X → List ℕ × A) (plan : Field A) (octets : List ℕ) (e : Located X509Error)
    → ((r : Refusal X509Error) → told (Err r) ≡ refused_told plan octets r) → Agrees plan → IsBytes octets → ReadsWhere is_x509_memory true view plan octets (Err e)
    → is_excused is_x509_memory true e.why ≡ false → told (plan.read octets) ≡ Err (refused_of e)
told_where told view plan octets e form agrees k reads other =
    let there = refused_where view plan octets e agrees k reads other in
    let refused : ℕ → Told = λ at. Err (record { why = e.why; at = at }) in
    ap told there.0 ∙ form e.why ∙ ap refused there.1
