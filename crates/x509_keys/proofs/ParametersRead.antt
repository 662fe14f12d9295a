-- What is read of parameters is what they hold.
use Rattle.std.proofs.Common.{◌≡◌, ℕ, ◌==◌, Bool, true, false, List, Result, Ok, Err, inl, inr, sym, ap, ◌∙◌, refl, if◌then◌else◌}
use Rattle.x509_der.specs.declared.error.BerError.TheVariants as ber
use Rattle.x509_der.specs.declared.error.Err.{Err as Refusal}
use Rattle.x509_der.specs.Laws.{IsBytes, Agrees}
use Rattle.x509_der.specs.Plan.{Outcome, got, added}
use Rattle.x509_der.specs.Reading.{Gives}
use Rattle.x509_fields.specs.declared.error.X509Error.{X509Error}
use Rattle.x509_fields.specs.declared.error.X509Error.TheVariants as x509
use Rattle.x509_fields.specs.Errors.{x509_of_refusal}
use Rattle.x509_fields.specs.Fields.{Field}
use Rattle.x509_keys.specs.Parameters.{HoldsFields, RefusesFields, ReadsFields, fields_of, sequence_number, value_or_error}

abbrev by_number : {A : Type 0} → Bool → Outcome (Refusal X509Error) A → Result A X509Error
by_number same o = if same then value_or_error o else Err (x509.Der ber.InvalidTag)

same_value : {A : Type 0} (a b : A) → ◌≡◌ {A = Result A X509Error} (Ok a) (Ok b) → a ≡ b
same_value a b e = cc

same_error : {A : Type 0} (a b : X509Error) → ◌≡◌ {A = Result A X509Error} (Err a) (Err b) → a ≡ b
same_error a b e = cc

was_value : {A : Type 0} (o : Outcome (Refusal X509Error) A) (a : A) → value_or_error o ≡ Ok a → (rest : List ℕ) × (o ≡ got a rest)
was_value {A} (Ok x) a e = (x.0, ap (λ (v : A). got {F = Refusal X509Error} v x.0) (same_value x.1 a e))
was_value (Err r) a e = absurd cc

was_error : {A : Type 0} (o : Outcome (Refusal X509Error) A) (why : X509Error) → value_or_error o ≡ Err why → (r : Refusal X509Error) × (o ≡ Err r) × (x509_of_refusal (λ held. held) r ≡ why)
was_error (Ok x) why e = absurd cc
was_error {A} (Err r) why e = (r, refl, same_error {A = A} (x509_of_refusal (λ held. held) r) why e)

value_holds : {A : Type 0} (fields : Field A) (number : ℕ) (contents : List ℕ) (same : Bool) (a : A) → Agrees fields → IsBytes contents
    → number == sequence_number ≡ same → by_number same (fields.read contents) ≡ Ok a → HoldsFields fields number contents a
value_holds fields number contents true a h k is e =
    let was = was_value (fields.read contents) a e in
    (is, was.0, h.sound contents a was.0 k was.1)
value_holds fields number contents false a h k is e = absurd cc

error_refuses : {A : Type 0} (fields : Field A) (number : ℕ) (contents : List ℕ) (same : Bool) (why : X509Error) → Agrees fields → IsBytes contents
    → number == sequence_number ≡ same → by_number same (fields.read contents) ≡ Err why → RefusesFields fields number contents why
error_refuses fields number contents true why h k is e =
    let was = was_error (fields.read contents) why e in
    inr (is, was.0, fields.stop added contents 0, h.refused contents was.0 k was.1, was.2)
error_refuses {A} fields number contents false why h k is e = inl (is, same_error {A = A} (x509.Der ber.InvalidTag) why e)

abbrev error_of : {A : Type 0} → X509Error → Result A X509Error
error_of e = Err e

reads_value : {A : Type 0} (fields : Field A) (number : ℕ) (contents : List ℕ) (a : A) → Agrees fields → IsBytes contents → HoldsFields fields number contents a → fields_of fields number contents ≡ Ok a
reads_value fields number contents a h k is =
    ap (λ same. by_number same (fields.read contents)) is.0 ∙ ap value_or_error (h.complete contents a is.1 k is.2)

reads_error : {A : Type 0} (fields : Field A) (number : ℕ) (contents : List ℕ) (why : X509Error) → Agrees fields → IsBytes contents → RefusesFields fields number contents why → fields_of fields number contents ≡ Err why
reads_error {A} fields number contents why h k (inl is) =
    ap (λ same. by_number same (fields.read contents)) is.0 ∙ ap (error_of {A = A}) is.1
reads_error {A} fields number contents why h k (inr is) =
    ap (λ same. by_number same (fields.read contents)) is.0 ∙ (ap value_or_error (h.refusal contents is.1 is.2 k is.3) ∙ ap (error_of {A = A}) is.4)

pub reads_fields : {A X : Type 0} (view : X → A) (fields : Field A) (number : ℕ) (contents : List ℕ) (result : Result X X509Error) → Agrees fields → IsBytes contents
    → Gives view result (fields_of fields number contents) → ReadsFields view fields number contents result
reads_fields view fields number contents (Ok x) h k e = record {
  holds = value_holds fields number contents (number == sequence_number) (view x) h k refl e;
  every = λ a is. sym (reads_value fields number contents a h k is) ∙ e;
  refused = tt;
  refuses = λ why is. sym (reads_error fields number contents why h k is) ∙ e;
}
reads_fields view fields number contents (Err why) h k e = record {
  holds = tt;
  every = λ a is. sym (reads_value fields number contents a h k is) ∙ e;
  refused = error_refuses fields number contents (number == sequence_number) why h k refl e;
  refuses = λ other is. sym (reads_error fields number contents other h k is) ∙ e;
}
