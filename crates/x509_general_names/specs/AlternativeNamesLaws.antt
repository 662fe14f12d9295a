-- Lists of names are read as their grammar says, each from one element.
use Rattle.std.specs.Prelude.{◌≡◌, ℕ, Bool, true, false, cond, List, [], Result, Ok, Err, refl}
use Rattle.std.proofs.Common.{sym, ap, ◌∙◌, inl, inr}
use Rattle.x509_der.specs.declared.error.BerError.{BerError}
use Rattle.x509_der.specs.declared.error.BerError.TheVariants as ber
use Rattle.x509_der.specs.declared.error.Err.{Err as Refusal}
use Rattle.x509_der.specs.declared.error.Err.TheVariants as refusals
use Rattle.x509_der.specs.Elements.{ElementIs}
use Rattle.x509_der.specs.Laws.{IsBytes, Agrees, IsMarkedElement, IsMarkedField, AtEnd}
use Rattle.x509_der.specs.Leaves.{any}
use Rattle.x509_der.specs.Plan.{Outcome, Plan, got, added}
use Rattle.x509_der.specs.Primitives.{is_context}
use Rattle.x509_der.specs.Promises.{refusal_by}
use Rattle.x509_der.specs.Reading.{Element, strict}
use Rattle.x509_der.proofs.Marking.{marked}
use Rattle.x509_der.proofs.Results.{got_parts, got_not_err}
use Rattle.x509_fields.specs.declared.error.X509Error.{X509Error}
use Rattle.x509_fields.specs.declared.error.X509Error.TheVariants.{Der}
use Rattle.x509_fields.specs.Errors.{as_x509, is_x509_memory}
use Rattle.x509_fields.specs.Fields.{as_x509_renames}
use Rattle.x509_general_names.specs.GeneralName.{GeneralNameValue, context_element}
use Rattle.x509_general_names.specs.GeneralNameLaws.{context_element_laws, general_name_laws}
use Rattle.x509_general_names.specs.AlternativeNames.{got_or_failed, unless_refused, end_of_names, general_names}

-- ---- where nothing may be refused

abbrev refusing : {E A : Type 0} → Refusal E → Outcome (Refusal E) A
refusing r = Err r

not_error : {E A : Type 0} (p : Plan (Refusal E) A) → Agrees p → (place : List ℕ) → IsBytes place → (o : Outcome (Refusal E) A) → p.read place ≡ o → ((e : E) → o ≡ refusing (refusals.Error e) → ⊥) → (e : E) (left : ℕ) → p.Refuses place (refusals.Error e) left → ⊥
not_error p hp place k o is never e left refuses = never e (sym is ∙ hp.refusal place (refusals.Error e) left k refuses)

unless_refused_agrees : {E A B : Type 0} (p : Plan (Refusal E) A) (value : B) → Agrees p → Agrees (unless_refused p value)
unless_refused_agrees {E} {A} {B} p value hp = record {
  sound = λ place b next k e. sound_part place b next k (p.read place) refl e;
  complete = λ place b next k h. complete_part place b next k h (p.read place) refl;
  refused = λ place r k e. refused_part place r k (p.read place) refl e;
  refusal = λ place r left k h. ap (got_or_failed value place) (hp.refusal place (refusals.Error h.0) left k h.1) ∙ ap (λ (r : Refusal E). refusing {A = B} r) h.2;
  stops = λ more acts place r left outside k h. hp.stops more acts place (refusals.Error h.0) left outside k h.1;
  inside = λ place r left k h. hp.inside place (refusals.Error h.0) left k h.1;
}
  where
    sound_part : (place : List ℕ) (b : B) (next : List ℕ) → IsBytes place → (o : Outcome (Refusal E) A) → p.read place ≡ o → got_or_failed value place o ≡ got b next → (unless_refused p value).Is place b next
    sound_part place b next k (Ok x) is e = let t = got_parts (Refusal E) value b place next e in (t.0, t.1, not_error p hp place k (Ok x) is (λ w same. absurd cc))
    sound_part place b next k (Err refusals.Incomplete) is e = let t = got_parts (Refusal E) value b place next e in (t.0, t.1, not_error p hp place k (Err refusals.Incomplete) is (λ w same. absurd cc))
    sound_part place b next k (Err (refusals.Error w)) is e = absurd cc
    sound_part place b next k (Err (refusals.Failure w)) is e = let t = got_parts (Refusal E) value b place next e in (t.0, t.1, not_error p hp place k (Err (refusals.Failure w)) is (λ w same. absurd cc))

    same_got : (place : List ℕ) (b : B) (next : List ℕ) → value ≡ b → place ≡ next → got {F = Refusal E} value place ≡ got b next
    same_got place b next v n = ap (λ (x : B). got {F = Refusal E} x place) v ∙ ap (λ m. got {F = Refusal E} b m) n

    complete_part : (place : List ℕ) (b : B) (next : List ℕ) → IsBytes place → (unless_refused p value).Is place b next → (o : Outcome (Refusal E) A) → p.read place ≡ o → got_or_failed value place o ≡ got b next
    complete_part place b next k h (Ok x) is = same_got place b next h.0 h.1
    complete_part place b next k h (Err refusals.Incomplete) is = same_got place b next h.0 h.1
    complete_part place b next k h (Err (refusals.Error w)) is = absurd (h.2 w (p.stop added place 0) (hp.refused place (refusals.Error w) k is))
    complete_part place b next k h (Err (refusals.Failure w)) is = same_got place b next h.0 h.1

    refused_part : (place : List ℕ) (r : Refusal E) → IsBytes place → (o : Outcome (Refusal E) A) → p.read place ≡ o → got_or_failed value place o ≡ Err r → (unless_refused p value).Refuses place r (p.stop added place 0)
    refused_part place r k (Ok x) is e = absurd (got_not_err value place r e)
    refused_part place r k (Err refusals.Incomplete) is e = absurd (got_not_err value place r e)
    refused_part place r k (Err (refusals.Error w)) is e = (w, hp.refused place (refusals.Error w) k is, cc)
    refused_part place r k (Err (refusals.Failure w)) is e = absurd (got_not_err value place r e)

unless_refused_laws : {E A B : Type 0} (is_memory : E → Bool) (At : List ℕ → Type 0) (p : Plan (Refusal E) A) (value : B) → Agrees p → ((place : List ℕ) (e : E) (left : ℕ) → IsBytes place → p.Refuses place (refusals.Error e) left → is_memory e ≡ false) → IsMarkedField is_memory At (unless_refused p value)
unless_refused_laws {E} is_memory At p value hp own =
    let agrees = unless_refused_agrees p value hp in
    record {
      field = record {
        agrees = agrees;
        within = record { front = λ place b next k e. ([], (agrees.sound place b next k e).1) };
        never_memory = record { refusal = λ place r k e. let h = agrees.refused place r k e in rw (← h.2) (own place h.0 _ k h.1) };
      };
      marks = record { is = λ place b next k h. h; told = λ place b next k e at m. agrees.sound place b next k e; marked = λ place b next k h. refl };
    }

-- ---- elements of context class

not_memory : (place : List ℕ) (kind : BerError) → ElementIs strict place (Err (refusals.Error kind)) → is_x509_memory (as_x509 kind) ≡ false
not_memory place ber.OutOfMemory h = absurd h
not_memory place _ h = refl

renamed_error : (place : List ℕ) (inner : Refusal BerError) (e : X509Error) → ElementIs strict place (Err inner) → refusal_by as_x509 inner ≡ refusals.Error e → is_x509_memory e ≡ false
renamed_error place refusals.Incomplete e h same = absurd cc
renamed_error place (refusals.Error kind) e h same = let is : as_x509 kind ≡ e = cc in rw (← is) (not_memory place kind h)
renamed_error place (refusals.Failure kind) e h same = absurd cc

other_class : (b : Bool) (a : Element) (e : X509Error) → cond {A = Result Element (Refusal X509Error)} b (Ok a) (Err (refusals.Error (Der ber.InvalidTag))) ≡ Err (refusals.Error e) → is_x509_memory e ≡ false
other_class true a e same = absurd cc
other_class false a e same = let is : Der ber.InvalidTag ≡ e = cc in rw (← is) refl

-- an element that isn't cut short is refused for what is wrong with it
refused_element : (place : List ℕ) (e : X509Error) (left : ℕ) → IsBytes place → context_element.Refuses place (refusals.Error e) left → is_x509_memory e ≡ false
unfolding context_element any
refused_element place e left k refuses = elim refuses [
  | inl h ↦ renamed_error place h.0 e h.1.0 h.2
  | inr h ↦ other_class (is_context h.0.header.class) h.0 e h.3
]

-- ---- lists

rest_laws : (names : List GeneralNameValue) → IsMarkedField is_x509_memory AtEnd (unless_refused context_element names)
rest_laws names = unless_refused_laws is_x509_memory AtEnd context_element names context_element_laws.laws.lawful.agrees refused_element

pub end_of_names_laws : (names : List GeneralNameValue) → IsMarkedField is_x509_memory AtEnd (end_of_names names)
unfolding end_of_names
end_of_names_laws names = search (marked, rest_laws) depth 20

pub general_names_laws : IsMarkedElement is_x509_memory general_names
unfolding general_names
general_names_laws = search (marked, as_x509_renames, general_name_laws, end_of_names_laws) depth 40
