-- What a strict reader gives: the same where it stands plainly, a refusal of its own where it doesn't.
use Rattle.std.proofs.Common.{◌≡◌, ◌&&◌, not, ℕ, Bool, true, false, List, [], Result, Ok, Err, cond, refl, sym, ap, ◌∙◌, arith}
use Rattle.x509_der.specs.declared.error.Err.{Err as Refusal}
use Rattle.x509_der.specs.declared.error.Err.TheVariants as refusals
use Rattle.x509_der.specs.declared.error.Refused.{Refused}
use Rattle.x509_der.specs.declared.header.Header.{Header}
use Rattle.x509_der.specs.declared.look.Form.{Form}
use Rattle.x509_der.specs.Looks.{behind}
use Rattle.x509_der.specs.Laws.{IsBytes, IsMarked}
use Rattle.x509_der.specs.Plan.{Outcome, Plan, got, then_stop, stop_here, only_where, plain_only, strictly_if}
use Rattle.x509_der.specs.Promises.{ReadsAt, IsFront, is_excused}
use Rattle.x509_der.proofs.Results.{bytes_before}

still_refused : {F A : Type 0} (why r : F) (plain : Bool) → only_where {A = A} why plain (Err r) ≡ Err r
still_refused why r true = refl
still_refused why r false = refl

still_refused_at : {E A L : Type 0} (strictly : Bool) (why : Refusal E) (p : Plan (Refusal E) A) (more : ℕ → L → L) (place : List ℕ) (outside : L) (e : Refused E L)
    → (p.read place ≡ Err e.why) × (p.stop more place outside ≡ e.left) → ((strictly_if strictly why p).read place ≡ Err e.why) × ((strictly_if strictly why p).stop more place outside ≡ e.left)
still_refused_at false why p more place outside e both = both
still_refused_at {E} {A} true why p more place outside e both = (
  ap (λ (r : Outcome (Refusal E) A). only_where why (p.marks place) r) both.0 ∙ still_refused why e.why (p.marks place),
  ap (λ (r : Outcome (Refusal E) A). then_stop r (p.stop more place outside) (λ a next. stop_here more place outside)) both.0 ∙ both.1,
)

module _ {E A X L : Type 0} (is_memory : E → Bool) (takes_memory : Bool) (form : Form) (own : Header → Bool) (heads : A → ℕ) (view : X → A) (strictly : Bool) (why : E) (p : Plan (Refusal E) A) (more : ℕ → L → L) (place : List ℕ) (outside : L) (old new : ℕ) where
  abbrev Loosely : Result (X × Bool) (Refused E L) → Type 0
  Loosely result = ReadsAt is_memory takes_memory form own heads view p more place outside old new result

  abbrev Strictly : Result (X × Bool) (Refused E L) → Type 0
  Strictly result = ReadsAt is_memory takes_memory form own heads view (strictly_if strictly (refusals.Error why) p) more place outside old new result

  abbrev RefusedThere : Refused E L → Type 0
  RefusedThere e = ((strictly_if strictly (refusals.Error why) p).read place ≡ Err e.why) × ((strictly_if strictly (refusals.Error why) p).stop more place outside ≡ e.left)

  -- what stands plainly, or is read loosely
  pub taken : (x : X × Bool) → (strictly && not x.1) ≡ false → Loosely (Ok x) → Strictly (Ok x)
  taken x fine read = record {
    reads = reads_part strictly x.1 fine (sym read.marks) read.reads;
    marks = marks_part strictly x.1 fine read.marks;
    grows = read.grows;
    count = read.count;
    foreign = read.foreign;
    least = read.least;
    there = read.there;
  }
    where
      reads_part : (s plain : Bool) → (s && not plain) ≡ false → p.marks place ≡ plain → p.read place ≡ got (view x.0) (behind place) → (strictly_if s (refusals.Error why) p).read place ≡ got (view x.0) (behind place)
      reads_part false plain fine mark e = e
      reads_part true true fine mark e = ap (λ (m : Bool). only_where (refusals.Error why) m (p.read place)) mark ∙ e
      reads_part true false fine mark e = absurd cc

      marks_part : (s plain : Bool) → (s && not plain) ≡ false → plain ≡ p.marks place → plain ≡ (strictly_if s (refusals.Error why) p).marks place
      marks_part false plain fine mark = mark
      marks_part true true fine mark = refl
      marks_part true false fine mark = absurd cc

  -- what doesn't stand plainly, for a strict reader
  pub refused_strictly : (x : X × Bool) (e : Refused E L) → (strictly && not x.1) ≡ true → e.why ≡ refusals.Error why → e.left ≡ stop_here more place outside → Loosely (Ok x) → Strictly (Err e)
  refused_strictly x e loose reason left read = record {
    reads = answer (is_excused is_memory takes_memory e.why) (parts strictly x.1 loose (sym read.marks) read.reads);
    marks = tt;
    grows = read.grows;
    count = omega (arith, read.count);
    foreign = λ away. let never = (read.foreign away).0 in absurd cc;
    least = tt;
    there = tt;
  }
    where
      parts : (s plain : Bool) → (s && not plain) ≡ true → p.marks place ≡ plain → p.read place ≡ got (view x.0) (behind place) → ((strictly_if s (refusals.Error why) p).read place ≡ Err e.why) × ((strictly_if s (refusals.Error why) p).stop more place outside ≡ e.left)
      parts true false loose mark read = (
        ap (λ (m : Bool). only_where (refusals.Error why) m (p.read place)) mark ∙ (ap (only_where (refusals.Error why) false) read ∙ ap (λ (r : Refusal E). Err r) (sym reason)),
        ap (λ (r : Outcome (Refusal E) A). then_stop r (p.stop more place outside) (λ a next. stop_here more place outside)) read ∙ sym left,
      )
      parts true true loose mark read = absurd cc
      parts false plain loose mark read = absurd cc

      answer : (b : Bool) → RefusedThere e → cond b (Unit {0}) (RefusedThere e)
      answer true both = tt
      answer false both = both

  -- what is refused loosely
  pub refused_alike : (e : Refused E L) → Loosely (Err e) → Strictly (Err e)
  refused_alike e read = record {
    reads = go (is_excused is_memory takes_memory e.why) read.reads;
    marks = tt;
    grows = read.grows;
    count = read.count;
    foreign = read.foreign;
    least = tt;
    there = tt;
  }
    where
      go : (b : Bool) → cond b (Unit {0}) ((p.read place ≡ Err e.why) × (p.stop more place outside ≡ e.left)) → cond b (Unit {0}) (RefusedThere e)
      go true given = tt
      go false given = still_refused_at strictly (refusals.Error why) p more place outside e given

-- ---- what a strict reader took, a loose one takes

was_read : {F A : Type 0} (why : F) (plain : Bool) (o : Outcome F A) (a : A) (next : List ℕ) → only_where why plain o ≡ got a next → o ≡ got a next
was_read why true o a next e = e
was_read why false (Ok x) a next e = absurd cc
was_read why false (Err r) a next e = absurd cc

pub taken_loosely : {F A : Type 0} (strictly : Bool) (why : F) (p : Plan F A) (place : List ℕ) (a : A) (next : List ℕ) → (strictly_if strictly why p).read place ≡ got a next → p.read place ≡ got a next
taken_loosely true why p place a next e = was_read why (p.marks place) (p.read place) a next e
taken_loosely false why p place a next e = e

pub front_loosely : {F A : Type 0} (why : F) (p : Plan F A) → IsMarked p → (bytes : List ℕ) (a : A) (rest : List ℕ) → IsBytes bytes → IsFront (plain_only why p) bytes a rest → IsFront p bytes a rest
front_loosely why p marked bytes a rest k front = (front.0, front.1, marked.marks.is front.0 a [] (bytes_before bytes front.0 rest front.1 k) front.2)
