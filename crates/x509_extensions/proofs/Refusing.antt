-- What is told of a refused value is what its grammar refuses.
use Rattle.std.proofs.Common.{◌≡◌, ◌+◌, ◌-◌, ℕ, List, length, cond, Bool, true, false, Option, Some, None, Ok, Err, refl, sym, ap, subst, ◌∙◌, inl, inr, arith}
use Rattle.x509_der.specs.declared.error.BerError.{BerError}
use Rattle.x509_der.specs.declared.error.Err.{Err as Refusal}
use Rattle.x509_der.specs.declared.error.Err.TheVariants as refusals
use Rattle.x509_der.specs.declared.error.Located.{Located}
use Rattle.x509_der.specs.Laws.{Accumulates, Agrees, IsBytes}
use Rattle.x509_der.specs.Leaves.{ia5}
use Rattle.x509_der.specs.Plan.{Plan, added, got}
use Rattle.x509_der.specs.Promises.{Converts, ReadsWhere, is_ber_memory, is_excused, refusal_by}
use Rattle.x509_der.proofs.Results.{cases_outcome, err_is, got_not_err}
use Rattle.x509_fields.specs.declared.error.X509Error.{X509Error}
use Rattle.x509_fields.specs.Errors.{as_x509, as_x509-memory, is_x509_memory}
use Rattle.x509_fields.specs.Fields.{Field, lifted}
use Rattle.x509_values.specs.NsComment.{ns_comment}
use Rattle.x509_values.proofs.Comments.{converted, ns_comment_laws}
use Rattle.x509_extensions.specs.Kinds.{kind_of}
use Rattle.x509_extensions.specs.Parsed.{Parsed, Failed, ber_in, error_in, made, only_value, parsed_by, parsed_value, row, row_laws, said}
use Rattle.x509_extensions.specs.Refusals.{IsAt, IsErrorOf, IsOrMemory, TellsRefusal, refusal_at, refusal_by_kind, value_refusal}
use Rattle.x509_extensions.specs.declared.kind.Kind.{Kind}
use Rattle.x509_extensions.proofs.Saying.{never_failed}

-- ---- what a reader with places promises

-- what memory excuses where none is taken, it excuses where some is
less_excused : (takes_memory : Bool) (why : Refusal X509Error) → is_excused is_x509_memory true why ≡ false → is_excused is_x509_memory takes_memory why ≡ false
less_excused true why e = e
less_excused false refusals.Incomplete e = refl
less_excused false (refusals.Error x) e = refl
less_excused false (refusals.Failure x) e = refl

-- what holds unless memory ran out
unless : (b : Bool) (P Q : Type 0) → (P → Q) → cond b (Unit {0}) P → cond b (Unit {0}) Q
unless true P Q f h = tt
unless false P Q f h = f h

decide : (b : Bool) (P : Type 0) → (b ≡ false → P) → cond b (Unit {0}) P
decide true P f = tt
decide false P f = f refl

more_excused : (takes_memory : Bool) (why : Refusal X509Error) (P : Type 0) → cond (is_excused is_x509_memory takes_memory why) (Unit {0}) P → cond (is_excused is_x509_memory true why) (Unit {0}) P
more_excused true why P h = h
more_excused false refusals.Incomplete P h = h
more_excused false (refusals.Error x) P h = h
more_excused false (refusals.Failure x) P h = always (is_x509_memory x) h
  where
    always : (b : Bool) → P → cond b (Unit {0}) P
    always true p = tt
    always false p = p

pub nothing_refused : {A X : Type 0} (p : Field A) (takes_memory : Bool) (view : X → List ℕ × A) (value : List ℕ) (x : X) → ReadsWhere is_x509_memory takes_memory view p value (Ok x) → TellsRefusal p value None
nothing_refused p takes_memory view value x w = record { located = tt; locates = w.locates }

pub refused_there : {A X : Type 0} (p : Field A) (takes_memory : Bool) (view : X → List ℕ × A) (value : List ℕ) (e : Located X509Error) → ReadsWhere {X = X} is_x509_memory takes_memory view p value (Err e) → TellsRefusal p value (Some e)
refused_there p takes_memory view value e w = record {
  located = λ own. let r = w.located (less_excused takes_memory e.why own) in (e.why, r.0, r.1, (refl, r.2));
  locates = λ why left r. more_excused takes_memory e.why (IsAt value why left e) (w.locates why left r);
}

-- ---- under another type of errors

same_memory : (r : Refusal BerError) → is_excused is_x509_memory true (refusal_by as_x509 r) ≡ is_excused is_ber_memory true r
same_memory refusals.Incomplete = refl
same_memory (refusals.Error k) = refl
same_memory (refusals.Failure k) = as_x509-memory k

pub nothing_refused_below : {A X : Type 0} (p : Plan (Refusal BerError) A) (view : X → List ℕ × A) (value : List ℕ) (x : X) → ReadsWhere is_ber_memory true view p value (Ok x) → TellsRefusal (lifted p) value None
nothing_refused_below p view value x w = record { located = tt; locates = λ why left r. w.locates r.0 left r.1 }

pub refused_below : {A X : Type 0} (p : Plan (Refusal BerError) A) (view : X → List ℕ × A) (value : List ℕ) (e : Located BerError) (why : Refusal X509Error) → Converts (λ k f. f ≡ as_x509 k) e.why why → ReadsWhere {X = X} is_ber_memory true view p value (Err e)
    → TellsRefusal (lifted p) value (Some (record { why = why; at = e.at }))
refused_below p view value e why c w =
    let is : why ≡ refusal_by as_x509 e.why = converted e.why why c in
    let excused : is_excused is_x509_memory true why ≡ is_excused is_ber_memory true e.why = ap (is_excused is_x509_memory true) is ∙ same_memory e.why in
    record {
      located = λ own. let r = w.located (sym excused ∙ own) in (why, r.0, (e.why, r.1, sym is), (refl, r.2));
      locates = λ other left r. subst (λ (b : Bool). cond b (Unit {0}) (IsAt value other left (record { why = why; at = e.at }))) (sym excused)
          (unless (is_excused is_ber_memory true e.why) ((e.why ≡ r.0) × (e.at + left ≡ length value)) (IsAt value other left (record { why = why; at = e.at }))
          (λ h. (is ∙ ap (refusal_by as_x509) h.0 ∙ r.2, h.1)) (w.locates r.0 left r.1));
    }

-- ---- a row of the table

pub told_made : {A : Type 0} (make : A → Parsed) (p : Field A) (value : List ℕ) (told : Option (Located X509Error)) → TellsRefusal p value told → TellsRefusal (made make p) value told
told_made make p value None t = record {
  located = tt;
  locates = λ why left r. elim r [ inl h ↦ t.locates why left h | inr h ↦ absurd h.3 ];
}
told_made make p value (Some e) t = record {
  located = λ own. let r = t.located own in (r.0, r.1, inl r.2, r.3);
  locates = λ why left r. elim r [ inl h ↦ t.locates why left h | inr h ↦ absurd h.3 ];
}

-- ---- a comment, whose every refusal lies at its front

-- octets that are added one after the other
sums : Accumulates added
sums n m outside = omega arith

-- the place of a comment's refusal is where reading stops
at_front : (value : List ℕ) (why : Refusal X509Error) (left : ℕ) → IsBytes value → ns_comment.Refuses value why left → left + 0 ≡ length value + 0
unfolding ns_comment ia5
at_front value why left k r = sym (ns_comment_laws.field.agrees.stops added sums value why left 0 k r)

pub comment_refused : (value : List ℕ) (why : Refusal X509Error) → IsBytes value → ns_comment.read value ≡ Err why → TellsRefusal ns_comment value (Some (record { why = why; at = 0 }))
comment_refused value why k e =
    let agrees = ns_comment_laws.field.agrees in
    let left = ns_comment.stop added value 0 in
    let r = agrees.refused value why k e in
    record {
      located = λ own. (why, left, r, (refl, omega (arith, at_front value why left k r)));
      locates = λ other others h. decide (is_excused is_x509_memory true why) (IsAt value other others (record { why = why; at = 0 })) (λ own. (
        err_is (List ℕ) why other (sym e ∙ agrees.refusal value other others k h),
        omega (arith, at_front value other others k h),
      ));
    }

pub comment_read : (value text next : List ℕ) → IsBytes value → ns_comment.read value ≡ got text next → TellsRefusal ns_comment value None
comment_read value text next k e = record { located = tt; locates = λ why left r. got_not_err {F = Refusal X509Error} text next why (sym e ∙ ns_comment_laws.field.agrees.refusal value why left k r) }

-- ---- as a function of the octets

pub computed : {A : Type 0} (p : Field A) → Agrees p → (value : List ℕ) → IsBytes value → (told : Option (Located X509Error)) → TellsRefusal p value told → IsOrMemory told (refusal_at (p.read value) (length value - p.stop added value 0))
computed {A} p agrees value k None t = elim (cases_outcome (p.read value)) [
  | inl x ↦ ap (λ r. refusal_at r (length value - p.stop added value 0)) x.2
  | inr x ↦ absurd (t.locates x.0 (p.stop added value 0) (agrees.refused value x.0 k x.1))
]
computed {A} p agrees value k (Some e) t = elim (cases_outcome (p.read value)) [
  | inl x ↦ decide (is_excused is_x509_memory true e.why) _ (λ own. let r = t.located own in absurd (got_not_err {F = Refusal X509Error} x.0 x.1 r.0 (sym x.2 ∙ agrees.refusal value r.0 r.1 k r.2)))
  | inr x ↦ unless (is_excused is_x509_memory true e.why) (IsAt value x.0 (p.stop added value 0) e) _ (same x.0 x.1) (t.locates x.0 (p.stop added value 0) (agrees.refused value x.0 k x.1))
]
  where
    same : (why : Refusal X509Error) → p.read value ≡ Err why → IsAt value why (p.stop added value 0) e → refusal_at (p.read value) (length value - p.stop added value 0) ≡ Some e
    same why is h = let at : length value - p.stop added value 0 ≡ e.at = omega (arith, h.1) in rw (is, at, sym h.0) refl

-- ---- what the value says

pub error_told : (kind : Kind) (value : List ℕ) → IsBytes value → (told : Option (Located X509Error)) → TellsRefusal (row kind) value told → IsErrorOf (said (only_value ((row kind).read value))) told
error_told kind value k None t =
    let agrees = (row_laws kind).field.agrees in
    elim (cases_outcome ((row kind).read value)) [
      | inl x ↦ ap (λ r. error_in (said (only_value r))) x.2 ∙ never_failed kind value x.0 x.1 x.2
      | inr x ↦ absurd (t.locates x.0 ((row kind).stop added value 0) (agrees.refused value x.0 k x.1))
    ]
error_told kind value k (Some e) t =
    let agrees = (row_laws kind).field.agrees in
    elim (cases_outcome ((row kind).read value)) [
      | inl x ↦ decide (is_excused is_x509_memory true e.why) _ (λ own. let r = t.located own in absurd (got_not_err {F = Refusal X509Error} x.0 x.1 r.0 (sym x.2 ∙ agrees.refusal value r.0 r.1 k r.2)))
      | inr x ↦ unless (is_excused is_x509_memory true e.why) (IsAt value x.0 ((row kind).stop added value 0) e) _ (λ h. ap (λ r. said (only_value r)) x.1 ∙ ap (λ (w : Refusal X509Error). Failed (refusal_by ber_in w)) (sym h.0))
          (t.locates x.0 ((row kind).stop added value 0) (agrees.refused value x.0 k x.1))
    ]

-- ---- by the identifier

pub told_computed : (id value : List ℕ) (kind : Kind) → Some kind ≡ kind_of id → IsBytes value → (told : Option (Located X509Error)) → TellsRefusal (row kind) value told → IsOrMemory told (value_refusal id value)
unfolding value_refusal
told_computed id value kind e k told t = subst (λ known. IsOrMemory told (refusal_by_kind known value)) e (computed (row kind) (row_laws kind).field.agrees value k told t)

pub told_error : (id value : List ℕ) (kind : Kind) → Some kind ≡ kind_of id → IsBytes value → (told : Option (Located X509Error)) → TellsRefusal (row kind) value told → IsErrorOf (parsed_value id value) told
unfolding parsed_value
told_error id value kind e k told t = subst (λ known. IsErrorOf (parsed_by known id value) told) e (error_told kind value k told t)

pub none_computed : (id value : List ℕ) → None ≡ kind_of id → value_refusal id value ≡ None
unfolding value_refusal
none_computed id value e = ap (λ known. refusal_by_kind known value) (sym e)

pub none_error : (id value : List ℕ) → None ≡ kind_of id → error_in (parsed_value id value) ≡ None
unfolding parsed_value
none_error id value e = ap (λ known. error_in (parsed_by known id value)) (sym e)
