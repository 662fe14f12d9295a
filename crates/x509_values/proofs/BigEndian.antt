-- The number that big-endian octets spell is the number in base 256 of these digits.
use Rattle.std.proofs.Common.{◌≡◌, ℕ, List, [], ◌∷◌, length, Ok, Err, refl, sym, ap, ◌∙◌, arith, w8, w16, w64}
use Rattle.std.specs.Int.{from_be_bytes}
use Rattle.std.specs.Int.Digits.{number_from_digits}
use Rattle.x509_der.specs.declared.error.BerError.{BerError}
use Rattle.x509_der.specs.declared.error.Err.{Err as Refusal}
use Rattle.x509_der.specs.Plan.{Outcome, got, and_then, then_stop, stop_here}
use Rattle.x509_values.specs.Octets.{fixed, number_of}
use Rattle.x509_values.specs.OctetLaws.{was_cut, number_by}

pub be_1 : (octets : List ℕ) → length octets ≡ 1 → from_be_bytes w8 octets ≡ number_from_digits 256 octets
be_1 [] e = absurd (omega arith)
be_1 (a ∷ []) e = omega arith
be_1 (a ∷ b ∷ more) e = absurd (omega arith)

pub be_2 : (octets : List ℕ) → length octets ≡ 2 → from_be_bytes w16 octets ≡ number_from_digits 256 octets
be_2 [] e = absurd (omega arith)
be_2 (a ∷ []) e = absurd (omega arith)
be_2 (a ∷ b ∷ []) e = omega arith
be_2 (a ∷ b ∷ c ∷ more) e = absurd (omega arith)

pub be_8 : (octets : List ℕ) → length octets ≡ 8 → from_be_bytes w64 octets ≡ number_from_digits 256 octets
be_8 [] e = absurd (omega arith)
be_8 (a ∷ []) e = absurd (omega arith)
be_8 (a ∷ b ∷ []) e = absurd (omega arith)
be_8 (a ∷ b ∷ c ∷ []) e = absurd (omega arith)
be_8 (a ∷ b ∷ c ∷ d ∷ []) e = absurd (omega arith)
be_8 (a ∷ b ∷ c ∷ d ∷ f ∷ []) e = absurd (omega arith)
be_8 (a ∷ b ∷ c ∷ d ∷ f ∷ g ∷ []) e = absurd (omega arith)
be_8 (a ∷ b ∷ c ∷ d ∷ f ∷ g ∷ h ∷ []) e = absurd (omega arith)
be_8 (a ∷ b ∷ c ∷ d ∷ f ∷ g ∷ h ∷ i ∷ []) e = omega arith
be_8 (a ∷ b ∷ c ∷ d ∷ f ∷ g ∷ h ∷ i ∷ j ∷ more) e = absurd (omega arith)

pub u8_read : (place octets rest : List ℕ) (number : ℕ) → (fixed 1).read place ≡ got octets rest → number ≡ from_be_bytes w8 octets → (number_of 1).read place ≡ got number rest
u8_read place octets rest number e is = number_by 1 place octets rest number e (sym (be_1 octets (was_cut 1 place octets rest e).0) ∙ sym is)

pub u16_read : (place octets rest : List ℕ) (number : ℕ) → (fixed 2).read place ≡ got octets rest → number ≡ from_be_bytes w16 octets → (number_of 2).read place ≡ got number rest
u16_read place octets rest number e is = number_by 2 place octets rest number e (sym (be_2 octets (was_cut 2 place octets rest e).0) ∙ sym is)

pub u64_read : (place octets rest : List ℕ) (number : ℕ) → (fixed 8).read place ≡ got octets rest → number ≡ from_be_bytes w64 octets → (number_of 8).read place ≡ got number rest
u64_read place octets rest number e is = number_by 8 place octets rest number e (sym (be_8 octets (was_cut 8 place octets rest e).0) ∙ sym is)

pub number_refused : (n : ℕ) (place : List ℕ) (r : Refusal BerError) → (fixed n).read place ≡ Err r → (number_of n).read place ≡ Err r
unfolding number_of
number_refused n place r e = ap (λ (x : Outcome (Refusal BerError) (List ℕ)). and_then x (λ octets rest. got (number_from_digits 256 octets) rest)) e

-- a number that isn't read is refused where it would stand
pub number_stops : {L : Type 0} (n : ℕ) (more : ℕ → L → L) (place : List ℕ) (outside : L) (r : Refusal BerError) → (number_of n).read place ≡ Err r → (number_of n).stop more place outside ≡ stop_here more place outside
unfolding number_of fixed
number_stops {L} n more place outside r e = go ((fixed n).read place) e
  where
    go : (x : Outcome (Refusal BerError) (List ℕ)) → and_then x (λ octets rest. got (number_from_digits 256 octets) rest) ≡ Err r → then_stop x (stop_here more place outside) (λ octets rest. stop_here more rest outside) ≡ stop_here more place outside
    go (Err why) e = refl
    go (Ok x) e = absurd cc
