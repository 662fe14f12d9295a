-- A timestamp is refused only where bytes are missing.
use Rattle.std.proofs.Common.{◌≡◌, ℕ, List, inl, inr, Err, sym}
use Rattle.x509_der.specs.declared.error.BerError.{BerError}
use Rattle.x509_der.specs.declared.error.Err.{Err as Refusal}
use Rattle.x509_der.specs.declared.error.Err.TheVariants as refusals
use Rattle.x509_der.specs.Leaves.{BerPlan}
use Rattle.x509_der.specs.Plan.{◌>>=◌, give, container}
use Rattle.x509_der.proofs.Results.{got_not_err, then_err}
use Rattle.x509_values.specs.Octets.{fixed, number_of, sized}
use Rattle.x509_values.specs.OctetLaws.{was_short}
use Rattle.x509_values.specs.Timestamp.{digitally_signed, timestamp_fields, timestamp}

pub record OnlyIncomplete {A : Type 0} (p : BerPlan A) : Type 0 where
  pub refusal : (place : List ℕ) (r : Refusal BerError) → p.read place ≡ Err r → r ≡ refusals.Incomplete

given : {A : Type 0} (a : A) → OnlyIncomplete (give a)
given a = record { refusal = λ place r e. absurd (got_not_err a place r e) }

followed : {A B : Type 0} (p : BerPlan A) (f : A → BerPlan B) → OnlyIncomplete p → ((a : A) → OnlyIncomplete (f a)) → OnlyIncomplete (p >>= f)
followed p f hp hf = record {
  refusal = λ place r e. elim (then_err (p.read place) (λ a. (f a).read) r e) [
    | inl x ↦ hp.refusal place r x
    | inr t ↦ (hf t.0).refusal t.1 r t.3
  ];
}

contained : {A : Type 0} (outer : BerPlan (List ℕ)) (fields : BerPlan A) → OnlyIncomplete outer → OnlyIncomplete fields → OnlyIncomplete (container outer fields)
contained outer fields ho hf = record {
  refusal = λ place r e. elim (then_err (outer.read place) _ r e) [
    | inl x ↦ ho.refusal place r x
    | inr t ↦ elim (then_err (fields.read t.0) _ r t.3) [
      | inl x ↦ hf.refusal t.0 r x
      | inr u ↦ absurd (got_not_err u.0 t.1 r u.3)
    ]
  ];
}

fixed_incomplete : (n : ℕ) → OnlyIncomplete (fixed n)
fixed_incomplete n = record { refusal = λ place r e. sym (was_short n place r e).1 }

number_incomplete : (n : ℕ) → OnlyIncomplete (number_of n)
unfolding number_of
number_incomplete n = search (followed, given, fixed_incomplete)

sized_incomplete : OnlyIncomplete sized
unfolding sized
sized_incomplete = search (followed, number_incomplete, fixed_incomplete)

signed_incomplete : OnlyIncomplete digitally_signed
unfolding digitally_signed
signed_incomplete = search (followed, given, number_incomplete, sized_incomplete) depth 20

fields_incomplete : OnlyIncomplete timestamp_fields
unfolding timestamp_fields
fields_incomplete = search (followed, given, fixed_incomplete, number_incomplete, sized_incomplete, signed_incomplete) depth 20

pub timestamp_incomplete : OnlyIncomplete timestamp
unfolding timestamp
timestamp_incomplete = contained sized timestamp_fields sized_incomplete fields_incomplete
