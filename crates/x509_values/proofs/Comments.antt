-- A text, or all the bytes of its place.
use Rattle.std.proofs.Common.{◌≡◌, ℕ, Bool, true, false, List, [], ◌++◌, Ok, Err, ◌⊎◌, inl, inr, if◌then◌else◌, refl, sym, ap, ◌∙◌}
use Rattle.std.proofs.lemmas.List.{append-nil}
use Rattle.std.specs.Str.{IsUtf8, is_utf8}
use Rattle.std.proofs.lemmas.Str.{IsUtf8-from_is_utf8}
use Rattle.x509_der.specs.declared.error.BerError.{BerError}
use Rattle.x509_der.specs.declared.error.Err.{Err as Refusal}
use Rattle.x509_der.specs.declared.error.Err.TheVariants as refusals
use Rattle.x509_der.specs.Laws.{IsBytes, Agrees, IsMarkedField, Anywhere}
use Rattle.x509_der.specs.Leaves.{ia5}
use Rattle.x509_der.specs.Plan.{Outcome, Plan, got, then_marks, Nothing}
use Rattle.x509_der.specs.Promises.{Converts, refusal_by}
use Rattle.x509_der.proofs.Marking.{marked}
use Rattle.x509_der.proofs.Results.{cases_outcome, got_parts, got_not_err, err_is}
use Rattle.x509_fields.specs.declared.error.X509Error.{X509Error}
use Rattle.x509_fields.specs.Errors.{as_x509, is_x509_memory}
use Rattle.x509_fields.specs.Fields.{lifted, as_x509_renames}
use Rattle.x509_values.specs.NsComment.{IsWholeText, whole_text, or_whole_text, ns_comment}

-- what is made of a refusal
abbrev instead : {F : Type 0} → Bool → List ℕ → F → Outcome F (List ℕ)
instead b place why = if b then got place [] else Err why

was_text : {F : Type 0} (b : Bool) (place : List ℕ) (why : F) (text next : List ℕ) → instead b place why ≡ got text next → (b ≡ true) × (place ≡ text) × ([] ≡ next)
was_text {F} true place why text next e = let p = got_parts F place text [] next e in (refl, p.0, p.1)
was_text {F} false place why text next e = absurd (got_not_err {F = F} text next why (sym e))

is_text : {F : Type 0} (b : Bool) (place : List ℕ) (why : F) (text next : List ℕ) → b ≡ true → place ≡ text → [] ≡ next → instead b place why ≡ got text next
is_text b place why text next t same end = rw (t, same, end) refl

was_refused : {F : Type 0} (b : Bool) (place : List ℕ) (why r : F) → instead b place why ≡ Err r → (b ≡ false) × (why ≡ r)
was_refused {F} true place why r e = absurd (got_not_err {F = F} place [] r e)
was_refused {F} false place why r e = (refl, err_is (List ℕ) why r e)

is_refused : {F : Type 0} (b : Bool) (place : List ℕ) (why : F) → b ≡ false → instead b place why ≡ Err why
is_refused b place why f = rw f refl

either : (b : Bool) → (b ≡ true) ⊎ (b ≡ false)
either true = inl refl
either false = inr refl

pub not_utf8 : (octets : List ℕ) → (IsUtf8 octets → ⊥) → is_utf8 octets ≡ false
not_utf8 octets not = elim (either (is_utf8 octets)) [ inl e ↦ absurd (not (IsUtf8-from_is_utf8 octets e)) | inr e ↦ e ]

-- a refusal of the layer of elements, as one of ours
pub converted : (r : Refusal BerError) (s : Refusal X509Error) → Converts (λ e f. f ≡ as_x509 e) r s → s ≡ refusal_by as_x509 r
converted refusals.Incomplete s c = c
converted (refusals.Error e) s c = c.2 ∙ ap (λ (x : X509Error). refusals.Error x) c.1
converted (refusals.Failure e) s c = c.2 ∙ ap (λ (x : X509Error). refusals.Failure x) c.1

-- ---- laws

refused_nothing : {F : Type 0} (p : Plan F (List ℕ)) (laws : Agrees p) (place : List ℕ) (why : F) → IsBytes place → p.read place ≡ Err why → Nothing p place
refused_nothing {F} p laws place why k e = λ a next is. got_not_err {F = F} a next why (sym (laws.complete place a next k is) ∙ e)

-- which of the two was read
read_parts : {F : Type 0} (p : Plan F (List ℕ)) (laws : Agrees p) (place text next : List ℕ) → IsBytes place → (or_whole_text p).read place ≡ got text next → (p.read place ≡ got text next) ⊎ IsWholeText p place text next
read_parts {F} p laws place text next k e = elim (cases_outcome (p.read place)) [
  | inl t ↦ inl (t.2 ∙ sym (ap (whole_text place) t.2) ∙ e)
  | inr t ↦
      let w = was_text {F = F} (is_utf8 place) place t.0 text next (sym (ap (whole_text place) t.1) ∙ e) in
      inr (refused_nothing p laws place t.0 k t.1, w.0, w.1, w.2)
]

refused_parts : {F : Type 0} (p : Plan F (List ℕ)) (place : List ℕ) (r : F) → (or_whole_text p).read place ≡ Err r → (p.read place ≡ Err r) × (is_utf8 place ≡ false)
refused_parts {F} p place r e = elim (cases_outcome (p.read place)) [
  | inl t ↦ absurd (got_not_err {F = F} t.0 t.1 r (sym (ap (whole_text place) t.2) ∙ e))
  | inr t ↦
      let w = was_refused {F = F} (is_utf8 place) place t.0 r (sym (ap (whole_text place) t.1) ∙ e) in
      (t.1 ∙ ap (λ (x : F). Err x) w.1, w.0)
]

whole_read : {F : Type 0} (p : Plan F (List ℕ)) (laws : Agrees p) (place text next : List ℕ) → IsBytes place → IsWholeText p place text next → (or_whole_text p).read place ≡ got text next
whole_read {F} p laws place text next k is = elim (cases_outcome (p.read place)) [
  | inl t ↦ absurd (is.0 t.0 t.1 (laws.sound place t.0 t.1 k t.2))
  | inr t ↦ ap (whole_text place) t.1 ∙ is_text {F = F} (is_utf8 place) place t.0 text next is.1 is.2 is.3
]

same_mark : {F : Type 0} (r : Outcome F (List ℕ)) (b : Bool) → b ≡ true → then_marks r (λ text next. b) ≡ true
same_mark (Ok x) b e = e
same_mark (Err r) b e = refl

refused_mark : {F : Type 0} (p : Plan F (List ℕ)) (laws : Agrees p) (place : List ℕ) → IsBytes place → Nothing p place → (or_whole_text p).marks place ≡ true
refused_mark p laws place k none = elim (cases_outcome (p.read place)) [
  | inl t ↦ absurd (none t.0 t.1 (laws.sound place t.0 t.1 k t.2))
  | inr t ↦ ap (λ r. then_marks r (λ text next. p.marks place)) t.1
]

pub or_whole_text_laws : {E : Type 0} (is_memory : E → Bool) (p : Plan (Refusal E) (List ℕ)) → IsMarkedField is_memory Anywhere p → IsMarkedField is_memory Anywhere (or_whole_text p)
or_whole_text_laws {E} is_memory p laws =
    let agrees = laws.field.agrees in
    record {
      field = record {
        agrees = record {
          sound = λ place text next k e. elim (read_parts p agrees place text next k e) [
            | inl x ↦ inl (agrees.sound place text next k x)
            | inr is ↦ inr is
          ];
          complete = λ place text next k is. elim is [
            | inl x ↦ ap (whole_text place) (agrees.complete place text next k x)
            | inr whole ↦ whole_read p agrees place text next k whole
          ];
          refused = λ place r k e. let w = refused_parts p place r e in (agrees.refused place r k w.0, w.1);
          refusal = λ place r left k h. ap (whole_text place) (agrees.refusal place r left k h.0) ∙ is_refused {F = Refusal E} (is_utf8 place) place r h.1;
          stops = λ more acts place r left outside k h. agrees.stops more acts place r left outside k h.0;
          inside = λ place r left k h. agrees.inside place r left k h.0;
        };
        within = record {
          front = λ place text next k e. elim (read_parts p agrees place text next k e) [
            | inl x ↦ laws.field.within.front place text next k x
            | inr is ↦ (place, sym (ap (λ (m : List ℕ). place ++ m) (sym is.3) ∙ append-nil place))
          ];
        };
        never_memory = record {
          refusal = λ place r k e. laws.field.never_memory.refusal place r k (refused_parts p place r e).0;
        };
      };
      marks = record {
        is = λ place text next k h. elim h [ inl x ↦ inl (laws.marks.is place text next k x) | inr is ↦ inr is ];
        told = λ place text next k e at m. elim (read_parts p agrees place text next k e) [
          | inl x ↦ inl (laws.marks.told place text next k x at (sym (ap (λ r. then_marks r (λ text next. p.marks place)) x) ∙ m))
          | inr is ↦ inr is
        ];
        marked = λ place text next k h. elim h [
          | inl x ↦ same_mark (p.read place) (p.marks place) (laws.marks.marked place text next k x)
          | inr is ↦ refused_mark p agrees place k is.0
        ];
      };
    }

ia5_laws : IsMarkedField is_x509_memory Anywhere (lifted ia5)
ia5_laws = search (marked, as_x509_renames) depth 20

pub ns_comment_laws : IsMarkedField is_x509_memory Anywhere ns_comment
unfolding ns_comment
ns_comment_laws = or_whole_text_laws is_x509_memory (lifted ia5) ia5_laws
