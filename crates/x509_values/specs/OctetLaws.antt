-- The laws of fields that have no headers, and of containers whose length stands in two octets.
use Rattle.std.proofs.Common.{◌≡◌, ℕ, ◌<◌, ◌≤◌, Bool, true, false, cond, List, ◌++◌, length, take, drop, Err, nat_lt, refl, sym, ap, ◌∙◌, arith, append_assoc}
use Rattle.std.specs.Int.Digits.{number_from_digits}
use Rattle.std.proofs.lemmas.Bool.{lt-ltb, le-ltb}
use Rattle.std.proofs.lemmas.List.{length-append, length-take-le, take-append-drop, take_at, drop_at}
use Rattle.x509_der.specs.declared.error.Err.{Err as Refusal}
use Rattle.x509_der.specs.declared.error.Err.TheVariants as refusals
use Rattle.x509_der.specs.declared.error.BerError.{BerError}
use Rattle.x509_der.specs.Plan.{Outcome, Plan, got, run, run1, container}
use Rattle.x509_der.specs.Laws.{Agrees, Encloses, Local, Anywhere, AtEnd, Marks, IsMarkedField}
use Rattle.x509_der.specs.Promises.{is_ber_memory, is_excused}
use Rattle.x509_der.proofs.Results.{err, got_parts, err_is, then_ok, then_by, none_outside}
use Rattle.x509_der.proofs.Agreement.{container_agrees}
use Rattle.x509_der.proofs.Windows.{local_within, container_local, run_within, run1_within}
use Rattle.x509_der.proofs.Runs.{run_agrees, run1_agrees}
use Rattle.x509_der.proofs.WantOfMemory.{container_never_memory, then_never_memory, run_never_memory, some_never_memory}
use Rattle.x509_der.proofs.Marked.{container_marks, run1_marks}
use Rattle.x509_der.proofs.Marking.{give_marked, then_marked_field}
use Rattle.x509_values.specs.Octets.{fixed, number_of, sized}
use Rattle.x509_values.specs.Sentence.{IsMarkedSentence}

-- ---- so many octets

abbrev cut_at : Bool → ℕ → List ℕ → Outcome (Refusal BerError) (List ℕ)
cut_at short n place = cond short (Err refusals.Incomplete) (got (take n place) (drop n place))

-- what is read stands first, whatever stands behind it
pub fixed_reads : (n : ℕ) (octets next : List ℕ) → length octets ≡ n → (fixed n).read (octets ++ next) ≡ got octets next
unfolding fixed
fixed_reads n octets next e =
    let enough : n ≤ length (octets ++ next) = omega (arith, length-append octets next) in
    rw (le-ltb (length (octets ++ next)) n enough, take_at octets next n e, drop_at octets next n e) refl

fixed_refuses : (n : ℕ) (place : List ℕ) → length place < n → (fixed n).read place ≡ Err refusals.Incomplete
unfolding fixed
fixed_refuses n place lt = rw (lt-ltb (length place) n lt) refl

pub was_cut : (n : ℕ) (place octets next : List ℕ) → (fixed n).read place ≡ got octets next → (length octets ≡ n) × (place ≡ octets ++ next)
unfolding fixed
was_cut n place octets next e = go (nat_lt (length place) n) refl e
  where
    go : (short : Bool) → nat_lt (length place) n ≡ short → cut_at short n place ≡ got octets next → (length octets ≡ n) × (place ≡ octets ++ next)
    go true is e = absurd cc
    go false is e =
        let t = got_parts (Refusal BerError) (take n place) octets (drop n place) next e in
        let enough : n ≤ length place = grind arith in
        (ap length (sym t.0) ∙ length-take-le n place enough, sym (take-append-drop n place) ∙ ap (λ m. m ++ drop n place) t.0 ∙ ap (λ m. octets ++ m) t.1)

pub was_short : (n : ℕ) (place : List ℕ) (r : Refusal BerError) → (fixed n).read place ≡ Err r → (length place < n) × (refusals.Incomplete ≡ r)
unfolding fixed
was_short n place r e = go (nat_lt (length place) n) refl e
  where
    go : (short : Bool) → nat_lt (length place) n ≡ short → cut_at short n place ≡ Err r → (length place < n) × (refusals.Incomplete ≡ r)
    go true is e = (grind arith, err_is (List ℕ) refusals.Incomplete r e)
    go false is e = absurd cc

fixed_agrees : (n : ℕ) → Agrees (fixed n)
unfolding fixed
fixed_agrees n = record {
  sound = λ place a next k e. was_cut n place a next e;
  complete = λ place a next k h. ap (fixed n).read h.1 ∙ fixed_reads n a next h.0;
  refused = λ place r k e. let s = was_short n place r e in (s.0, s.1, none_outside place);
  refusal = λ place r left k h. fixed_refuses n place h.0 ∙ ap (λ (x : Refusal BerError). err {A = List ℕ} x) h.1;
  stops = λ more acts place r left outside k h. ap (λ m. more m outside) h.2;
  inside = λ place r left k h. omega (arith, h.2);
}

-- a refusal for want of bytes is none for want of memory
short_of_bytes : (r : Refusal BerError) → refusals.Incomplete ≡ r → is_excused is_ber_memory true r ≡ false
short_of_bytes r e = rw (← e) refl

fixed_marks : (At : List ℕ → Type 0) (n : ℕ) → Agrees (fixed n) → Marks At (fixed n)
unfolding fixed
fixed_marks At n h = record { is = λ place a next k h. h; told = λ place a next k e at m. h.sound place a next k e; marked = λ place a next k h. refl }

pub fixed_marked : (At : List ℕ → Type 0) (n : ℕ) → IsMarkedField is_ber_memory At (fixed n)
fixed_marked At n = record {
  field = record {
    agrees = fixed_agrees n;
    within = record { front = λ place a next k e. (a, (was_cut n place a next e).1) };
    never_memory = record { refusal = λ place r k e. short_of_bytes r (was_short n place r e).1 };
  };
  marks = fixed_marks At n (fixed_agrees n);
}

pub number_marked : (At : List ℕ → Type 0) (n : ℕ) → IsMarkedField is_ber_memory At (number_of n)
unfolding number_of
number_marked At n = search (then_marked_field, give_marked, fixed_marked)

pub sized_marked : (At : List ℕ → Type 0) → IsMarkedField is_ber_memory At sized
unfolding sized
sized_marked At = search (then_marked_field, number_marked, fixed_marked)

pub ruleset octet_laws = (give_marked, then_marked_field, fixed_marked, number_marked, sized_marked)

-- ---- strings of octets

pub number_by : (n : ℕ) (place octets rest : List ℕ) (number : ℕ) → (fixed n).read place ≡ got octets rest → number_from_digits 256 octets ≡ number → (number_of n).read place ≡ got number rest
unfolding number_of
number_by n place octets rest number e is =
    then_by ((fixed n).read place) (λ octets rest. got (number_from_digits 256 octets) rest) octets rest e ∙ ap (λ (m : ℕ). got {F = Refusal BerError} m rest) is

number_reads : (n : ℕ) (octets next : List ℕ) → length octets ≡ n → (number_of n).read (octets ++ next) ≡ got (number_from_digits 256 octets) next
number_reads n octets next e = number_by n (octets ++ next) octets next (number_from_digits 256 octets) (fixed_reads n octets next e) refl

-- the octets of a length, and so many octets behind them
pub record SizedParts (place contents next : List ℕ) : Type 0 where
  pub size : List ℕ
  pub two : length size ≡ 2
  pub spelled : length contents ≡ number_from_digits 256 size
  pub parts : place ≡ size ++ (contents ++ next)

sized_reads : (size contents next : List ℕ) → length size ≡ 2 → length contents ≡ number_from_digits 256 size → sized.read (size ++ (contents ++ next)) ≡ got contents next
unfolding sized
sized_reads size contents next two spelled =
    then_by ((number_of 2).read (size ++ (contents ++ next))) (λ n. (fixed n).read) (number_from_digits 256 size) (contents ++ next) (number_reads 2 size (contents ++ next) two)
    ∙ fixed_reads (number_from_digits 256 size) contents next spelled

number_parts : (n : ℕ) (place next : List ℕ) (number : ℕ) → (number_of n).read place ≡ got number next → (octets : List ℕ) × (length octets ≡ n) × (number_from_digits 256 octets ≡ number) × (place ≡ octets ++ next)
unfolding number_of
number_parts n place next number e =
    let t = then_ok ((fixed n).read place) (λ octets rest. got (number_from_digits 256 octets) rest) number next e in
    let g = got_parts (Refusal BerError) (number_from_digits 256 t.0) number t.1 next t.3 in
    let c = was_cut n place t.0 t.1 t.2 in
    (t.0, c.0, g.0, c.1 ∙ ap (λ m. t.0 ++ m) g.1)

sized_parts : (place contents next : List ℕ) → sized.read place ≡ got contents next → SizedParts place contents next
unfolding sized
sized_parts place contents next e =
    let t = then_ok ((number_of 2).read place) (λ n. (fixed n).read) contents next e in
    let s = number_parts 2 place t.1 t.0 t.2 in
    let c = was_cut t.0 t.1 contents next t.3 in
    record { size = s.0; two = s.1; spelled = c.0 ∙ sym s.2; parts = s.3 ∙ ap (λ m. s.0 ++ m) c.1 }

sized_local : Local sized
sized_local = record {
  sentence = λ place contents next k e.
      let p = sized_parts place contents next e in
      record {
        bytes = p.size ++ contents;
        some = omega (arith, p.two, length-append p.size contents);
        parts = p.parts ∙ sym (append_assoc p.size contents next);
        again = λ other. ap sized.read (append_assoc p.size contents other) ∙ sized_reads p.size contents other p.two p.spelled;
      };
}

sized_encloses : Encloses sized
sized_encloses = record {
  header = λ place contents next k e.
      let p = sized_parts place contents next e in
      (p.size, omega (arith, p.two), p.parts);
}

-- ---- structures that are no elements

pub sentence_marked_field : {E A : Type 0} (is_memory : E → Bool) (At : List ℕ → Type 0) (p : Plan (Refusal E) A) → IsMarkedSentence is_memory p → IsMarkedField is_memory At p
sentence_marked_field is_memory At p h = record {
  field = record { agrees = h.agrees; within = local_within p h.is_local; never_memory = h.never_memory };
  marks = record { is = h.marks.is; told = λ place a next k e at m. h.marks.told place a next k e tt m; marked = h.marks.marked };
}

pub run1_of_sentences : {E A : Type 0} (is_memory : E → Bool) (At : List ℕ → Type 0) (why : E) (p : Plan (Refusal E) A) → IsMarkedSentence is_memory p → IsMarkedField is_memory At (run1 (refusals.Error why) p)
run1_of_sentences {E} is_memory At why p h =
    let within = run_within {G = Refusal E} p (local_within p h.is_local) in
    record {
      field = record {
        agrees = run1_agrees (refusals.Error why) p h.agrees h.is_local;
        within = run1_within (refusals.Error why) p (local_within p h.is_local);
        never_memory = then_never_memory is_memory (run p) _ within (run_never_memory is_memory p) (some_never_memory is_memory why);
      };
      marks = run1_marks At (refusals.Error why) p h.agrees h.is_local (run_agrees p h.agrees h.is_local) within h.marks;
    }

pub sized_container : {A : Type 0} (fields : Plan (Refusal BerError) A) → IsMarkedField is_ber_memory AtEnd fields → IsMarkedSentence is_ber_memory (container sized fields)
sized_container fields h =
    let outer = sized_marked Anywhere in
    record {
      agrees = container_agrees sized fields sized_encloses outer.field.agrees h.field.agrees;
      is_local = container_local sized fields sized_local;
      never_memory = container_never_memory is_ber_memory sized fields sized_encloses outer.field.never_memory h.field.never_memory;
      marks = container_marks Anywhere sized fields sized_encloses outer.field.agrees h.field.agrees outer.marks h.marks;
    }
