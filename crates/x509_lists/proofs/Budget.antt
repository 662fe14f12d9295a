-- The tries of certificates that can't be read, and of the wrapper that is looked for at their place.
use Rattle.std.proofs.Common.{◌≡◌, ◌≤◌, ◌+◌, ◌-◌, ◌*◌, ◌==◌, ◌&&◌, ◌⊎◌, ℕ, List, Bool, true, false, Option, Some, None, Result, Ok, Err, length, refl, sym, ap, subst, inl, inr, arith, if◌then◌else◌, nat_lt}
use Rattle.std.specs.Prelude.{IsErr}
use Rattle.x509_der.specs.declared.header.Header.{Header}
use Rattle.x509_der.specs.declared.error.Err.{Err as Refusal}
use Rattle.x509_der.specs.declared.error.Err.TheVariants.{Error}
use Rattle.x509_der.specs.Fields.{CountedSoftBy}
use Rattle.x509_der.specs.Plan.{and_then, outcome_at, with_refusals}
use Rattle.x509_der.specs.Primitives.{is_universal, is_constructed, has_number}
use Rattle.x509_der.specs.Promises.{IsForeign, IsForeignTo}
use Rattle.x509_der.specs.Reading.{Reading, Element, header_at, element_at, incomplete, strict}
use Rattle.x509_der.proofs.Marked.{same_number, both_1}
use Rattle.x509_fields.specs.declared.error.X509Error.{X509Error}
use Rattle.x509_fields.specs.declared.error.X509Error.TheVariants.{InvalidExtensions}
use Rattle.x509_extensions.specs.ExtensionList.{wrapper_header}

told : (b : Bool) → (b ≡ true) ⊎ (b ≡ false)
told true = inl refl
told false = inr refl

abbrev tested : ℕ → Header → Result Header (Refusal X509Error)
tested n h = if has_number n h then Ok h else Err (Error InvalidExtensions)

-- the header of a SEQUENCE has no other number
not_numbered : (n : ℕ) → (16 == n) ≡ false → (h : Header) → is_constructed 16 h ≡ true → has_number n h ≡ false
not_numbered n distinct h own =
    elim (told (has_number n h)) [
      | inl its ↦ let two : (16 == n) ≡ true = same_number h.tag.0 16 n (both_1 h.constructed (h.tag.0 == 16) (both_1 (is_universal h.class) (h.constructed && h.tag.0 == 16) own)) its in absurd cc
      | inr other ↦ other
    ]

one_of_two : (n : ℕ) → (16 == n) ≡ false → (rest : List ℕ) (h : Header) (short : Bool) (found : List ℕ × Element) → found.1.header ≡ h
    → IsForeignTo (is_constructed 16) (if short then incomplete else Ok found) ⊎ IsErr (outcome_at (tested n h) rest)
one_of_two n distinct rest h true found same = inl tt
one_of_two n distinct rest h false found same =
    elim (told (is_constructed 16 found.1.header)) [
      | inl own ↦
          let apart = not_numbered n distinct h (subst (λ (d : Header). is_constructed 16 d ≡ true) same own) in
          inr (subst (λ (b : Bool). IsErr (outcome_at {F = Refusal X509Error} (if b then Ok h else Err (Error InvalidExtensions)) rest)) (sym apart) refl)
      | inr other ↦ inl other
    ]

-- no SEQUENCE stands at a place, or no wrapper does
sequence_or_wrapper : (n : ℕ) → (16 == n) ≡ false → (place : List ℕ) → IsForeign strict (is_constructed 16) place ⊎ IsErr ((wrapper_header n).read place)
unfolding wrapper_header element_at
sequence_or_wrapper n distinct place = go (header_at strict place)
  where
    go : (r : Reading Header) → IsForeignTo (is_constructed 16) (Rattle.x509_der.specs.Reading.◌>>=◌ r (λ h. if nat_lt (length h.0) h.1.length then incomplete else Ok (Rattle.std.proofs.Common.drop h.1.length h.0, record { header = h.1; contents = Rattle.std.proofs.Common.take h.1.length h.0 })))
        ⊎ IsErr (and_then (with_refusals (λ w. Error InvalidExtensions) r) (λ h. outcome_at (tested n h)))
    go (Ok x) = one_of_two n distinct x.0 x.1 (nat_lt (length x.0) x.1.length) _ refl
    go (Err w) = inl tt

-- a SEQUENCE that may be absent, and a wrapper behind it
pub closing_tries : {A : Type 0} (place next : List ℕ) (n : ℕ) (o : Option A) (old between new : ℕ) → (16 == n) ≡ false
    → CountedSoftBy o next old between place → old ≤ between → (IsForeign strict (is_constructed 16) place → between ≤ old)
    → new ≤ between + (8 * length next - 8) → (IsErr ((wrapper_header n).read next) → new ≤ between) → new ≤ old + (8 * length place - 8)
closing_tries place next n (Some a) old between new distinct soft grows foreign more other = omega (arith, soft, more, grows)
closing_tries place next n None old between new distinct soft grows foreign more other =
    elim (sequence_or_wrapper n distinct place) [
      | inl away ↦ omega (arith, more, foreign away, ap length soft.0)
      | inr unwrapped ↦ omega (arith, other (subst (λ (p : List ℕ). IsErr ((wrapper_header n).read p)) (sym soft.0) unwrapped), soft.1)
    ]
