-- What stands plainly wherever it is read.
use Rattle.std.proofs.Common.{◌≡◌, ℕ, Bool, true, ◌&&◌, List, Ok, Err, refl, ap, ◌∙◌}
use Rattle.x509_der.specs.Plan.{Outcome, Plan, then_marks, ◌>>=◌}
use Rattle.x509_values.specs.Octets.{fixed, number_of, sized}
use Rattle.x509_values.specs.Timestamp.{digitally_signed, timestamp_fields}

then_true : {F A : Type 0} (r : Outcome F A) (f : A → List ℕ → Bool) → ((a : A) (next : List ℕ) → f a next ≡ true) → then_marks r f ≡ true
then_true (Ok x) f h = h x.1 x.0
then_true (Err r) f h = refl

then_plain : {F A B : Type 0} (p : Plan F A) (f : A → Plan F B) → ((place : List ℕ) → p.marks place ≡ true) → ((a : A) (place : List ℕ) → (f a).marks place ≡ true) → (place : List ℕ) → (p >>= f).marks place ≡ true
then_plain p f hp hf place = ap (λ b. b && then_marks (p.read place) (λ a. (f a).marks)) (hp place) ∙ then_true (p.read place) (λ a. (f a).marks) hf

fixed_plain : (n : ℕ) (place : List ℕ) → (fixed n).marks place ≡ true
unfolding fixed
fixed_plain n place = refl

number_plain : (n : ℕ) (place : List ℕ) → (number_of n).marks place ≡ true
unfolding number_of
number_plain n = search (then_plain, fixed_plain)

pub sized_plain : (place : List ℕ) → sized.marks place ≡ true
unfolding sized
sized_plain = search (then_plain, number_plain, fixed_plain)

signed_plain : (place : List ℕ) → digitally_signed.marks place ≡ true
unfolding digitally_signed
signed_plain = search (then_plain, number_plain, sized_plain) depth 20

pub fields_plain : (place : List ℕ) → timestamp_fields.marks place ≡ true
unfolding timestamp_fields
fields_plain = search (then_plain, fixed_plain, number_plain, sized_plain, signed_plain) depth 20

pub ruleset plain_words = (sized_plain, fields_plain)
