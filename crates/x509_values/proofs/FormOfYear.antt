-- A time in the form that its year asks for.
use Rattle.std.proofs.Common.{◌≡◌, Bool, true, false, pos, ◌<ℤ◌, ℤ, int_lt, arith, refl, ap, IsTrue, ◌↔◌}
use Rattle.std.proofs.lemmas.Int.{ints}
use Rattle.x509_fields.specs.declared.time.asn1_time.ASN1Time.{ASN1Time}
use Rattle.x509_fields.specs.Times.{Time, time_of, is_generalized}
use Rattle.x509_values.specs.InvalidityDate.{in_form_of_year}

late : (year : ℤ) (b : Bool) → (IsTrue b ↔ (pos 2049 <ℤ year)) → b ≡ int_lt (pos 2049) year
late year b h = go b (int_lt (pos 2049) year) refl h
  where
    go : (b past : Bool) → int_lt (pos 2049) year ≡ past → (IsTrue b ↔ (pos 2049 <ℤ year)) → b ≡ past
    go true true e h = refl
    go false false e h = refl
    go true false e h = let is : pos 2049 <ℤ year = h.0 refl in absurd (omega (arith, ints))
    go false true e h = h.1 (omega (arith, ints))

pub form_of_year : (t : ASN1Time) → (IsTrue (is_generalized t) ↔ (pos 2049 <ℤ (time_of t).moment.year)) → time_of t ≡ in_form_of_year (time_of t)
form_of_year t form = ap (λ (b : Bool). let timed : Time = record { moment = (time_of t).moment; generalized = b } in timed) (late (time_of t).moment.year (is_generalized t) form)
