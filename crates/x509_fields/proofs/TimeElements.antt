-- A time is read from exactly those elements whose contents spell it.
use Rattle.std.proofs.Common.{◌≡◌, ◌⊎◌, inl, inr, ℕ, List, Bool, true, false, cond, not, ◌&&◌, eqb, refl, ap, sym, Option, Some, None, Ok, arith}
use Rattle.std.specs.Prelude.{◌↔◌, option_map}
use Rattle.std.proofs.lemmas.Bool.Decides.{nat_tests}
use Rattle.std.proofs.lemmas.Option.{same_Some}
use Rattle.x509_der.specs.Leaves.{any}
use Rattle.x509_der.specs.Primitives.{is_universal, some_or_bad, bad_value, as_refusal}
use Rattle.x509_der.specs.Reading.{Element}
use Rattle.x509_times.specs.Octets.{utc_moment, generalized_moment}
use Rattle.x509_fields.specs.Times.{Time, time, time_element, time_value, as_utc, as_generalized, time_in, SpellsTime, IsTimeElement}
use Rattle.x509_times.proofs.Spellings.{utc_reads, utc_completes, generalized_reads, generalized_completes}

either : (b : Bool) → (b ≡ true) ⊎ (b ≡ false)
either true = inl refl
either false = inr refl

mapped : {A B : Type 0} (f : A → B) (o : Option A) (y : B) → option_map f o ≡ Some y → (x : A) × (o ≡ Some x) × (f x ≡ y)
mapped f (Some x) y e = (x, refl, same_Some (f x) y e)
mapped f None y e = absurd (let no : ⊥ = cc in no)

is_number : (n k : ℕ) → eqb n k ≡ true → n ≡ k
is_number n k h = grind (arith, nat_tests)

with_form : (t : Time) (form : Bool) → t.generalized ≡ form → (let mapped : Time = record { moment = t.moment; generalized = form } in mapped) ≡ t
with_form t form e = ap (λ (b : Bool). let mapped : Time = record { moment = t.moment; generalized = b } in mapped) (sym e)

time_reads : (number : ℕ) (contents : List ℕ) (t : Time) → time_in number contents ≡ Some t → SpellsTime number contents t
time_reads number contents t e = elim (either (eqb number 23)) [
  | inl utc ↦
      let m = mapped as_utc (utc_moment contents) t (rw utc at e) in
      inl (is_number number 23 utc, rw (← m.2) (utc_reads contents m.0 m.1), rw (← m.2) refl)
  | inr other ↦ elim (either (eqb number 24)) [
    | inl general ↦
        let m = mapped as_generalized (generalized_moment contents) t (rw (other, general) at e) in
        inr (is_number number 24 general, rw (← m.2) (generalized_reads contents m.0 m.1), rw (← m.2) refl)
    | inr none ↦ absurd (let no : None ≡ Some t = rw (other, none) at e in let never : ⊥ = cc in never)
  ]
]

time_completes : (number : ℕ) (contents : List ℕ) (t : Time) → SpellsTime number contents t → time_in number contents ≡ Some t
time_completes number contents t (inl s) = rw (s.0, utc_completes contents t.moment s.1) (ap Some (with_form t false s.2))
time_completes number contents t (inr s) = rw (s.0, generalized_completes contents t.moment s.1) (ap Some (with_form t true s.2))

pub time_in_spells : (number : ℕ) (contents : List ℕ) (t : Time) → (time_in number contents ≡ Some t) ↔ SpellsTime number contents t
time_in_spells number contents t = (time_reads number contents t, time_completes number contents t)

good : (o : Option Time) (t : Time) → as_refusal (some_or_bad o) ≡ Ok t → o ≡ Some t
good (Some x) t e = let same : x ≡ t = cc in ap Some same
good None t e = absurd (let no : ⊥ = cc in no)

is_time : (universal constructed : Bool) (o : Option Time) (t : Time) → as_refusal (cond (universal && not constructed) (some_or_bad o) bad_value) ≡ Ok t
    → (universal ≡ true) × (constructed ≡ false) × (o ≡ Some t)
is_time true true o t e = absurd (let no : ⊥ = cc in no)
is_time true false o t e = (refl, refl, good o t e)
is_time false constructed o t e = absurd (let no : ⊥ = cc in no)

value_reads : (e : Element) (t : Time) → as_refusal (time_value e) ≡ Ok t → IsTimeElement e t
value_reads e t h =
    let is = is_time (is_universal e.header.class) e.header.constructed (time_in e.header.tag.0 e.contents) t h in
    record { universal = is.0; primitive = is.1; spelled = time_reads e.header.tag.0 e.contents t is.2 }

value_completes : (e : Element) (t : Time) → IsTimeElement e t → as_refusal (time_value e) ≡ Ok t
value_completes e t s = rw (s.universal, s.primitive, time_completes e.header.tag.0 e.contents t s.spelled) refl

pub time_sentences : (place next : List ℕ) (t : Time) → time.Is place t next ↔ ((e : Element) × any.Is place e next × IsTimeElement e t)
unfolding time time_element any
time_sentences place next t = (λ s. (s.0, s.1, value_reads s.0 t s.2), λ s. (s.0, s.1, value_completes s.0 t s.2))
