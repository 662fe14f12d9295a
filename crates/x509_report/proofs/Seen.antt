-- What a reader says of an object.
use Rattle.std.proofs.Common.{◌≡◌, ℕ, List, Bool, Option, Some, None, Ok, Err, false, sym, ap, ◌∙◌}
use Rattle.x509_der.specs.declared.error.Located.{Located}
use Rattle.x509_der.specs.Laws.{Agrees, IsBytes}
use Rattle.x509_der.specs.Promises.{ReadsWhere, is_excused}
use Rattle.x509_fields.specs.Errors.{is_x509_memory}
use Rattle.x509_fields.specs.Fields.{Field}
use Rattle.x509_fields.specs.declared.error.X509Error.{X509Error}
use Rattle.x509_report_objects.proofs.Refused.{refused_where}
use Rattle.x509_report.specs.Views.{refusal_by, refusal_of}

pub is_taken : {A : Type 0} (plan : Field A) (octets : List ℕ) (x : List ℕ × A) → plan.read octets ≡ Ok x → None ≡ refusal_of plan octets
is_taken plan octets x e = sym (ap (refusal_by plan octets) e)

pub is_refused : {A X : Type 0} {takes_memory : Bool} (view : X → List ℕ × A) (plan : Field A) (octets : List ℕ) (e : Located X509Error) → Agrees plan → IsBytes octets
    → ReadsWhere is_x509_memory takes_memory view plan octets (Err e) → is_excused is_x509_memory takes_memory e.why ≡ false → Some e ≡ refusal_of plan octets
is_refused view plan octets e agrees k reads other =
    let there = refused_where view plan octets e agrees k reads other in
    let refused : ℕ → Option (Located X509Error) = λ at. Some (record { why = e.why; at = at }) in
    sym (ap (refusal_by plan octets) there.0 ∙ ap refused there.1)
