-- Searching by halves.
use Rattle.std.proofs.Common.{◌≡◌, ℕ, zero, suc, ◌<◌, ◌≤◌, ◌+◌, ◌/◌, ◌^◌, List, [], ◌∷◌, length, Some, None, refl, subst, arith}
use Rattle.std.specs.Int.Digits.{digits_of}
use Rattle.std.proofs.lemmas.Int.Digits.{length-digits_of_step, length-digits_of-le, number_lt, number_digits_of, all_below_base_digits_of}
use Rattle.std.proofs.lemmas.Bool.Decides.{nat_tests}
use Rattle.x509_revoked.specs.Entries.{Indexed, position_in, number_at, position_at, AreInOrder}
use Rattle.x509_revoked.specs.Index.{binary_digits}

-- ---- binary digits

below_power : (n : ℕ) → n < 2 ^ binary_digits n
below_power n = subst (λ m. m < 2 ^ binary_digits n) (number_digits_of 2 n (omega arith)) (number_lt 2 (digits_of 2 n) (all_below_base_digits_of 2 n (omega arith)))

pub digits_grow : (m n : ℕ) → m ≤ n → binary_digits m ≤ binary_digits n
digits_grow m n le = length-digits_of-le 2 (binary_digits n) m (omega arith) (omega (arith, le, below_power n))

-- less than half of it has a digit less
pub digits_halved : (m n : ℕ) → 0 < n → m ≤ n / 2 → binary_digits m + 1 ≤ binary_digits n
digits_halved m n some le = omega (arith, digits_grow m (n / 2) le, length-digits_of_step 2 n (omega arith) some)

pub digits_fit : (n : ℕ) → n < 2 ^ 64 → binary_digits n ≤ 64
digits_fit n small = length-digits_of-le 2 64 n (omega arith) small

-- ---- among numbers in order

pub less_up_to : (xs : List Indexed) → AreInOrder xs → (n k : ℕ) → k < length xs → number_at xs k < n → (j : ℕ) → j < k + 1 → number_at xs j < n
less_up_to xs order n k within less j lt = omega (arith, order j k (omega (arith, lt)) within, less)

pub not_less_from : (xs : List Indexed) → AreInOrder xs → (n k : ℕ) → n ≤ number_at xs k → (j : ℕ) → k ≤ j → j < length xs → n ≤ number_at xs j
not_less_from xs order n k not_less j le lt = omega (arith, order k j le lt, not_less)

-- ---- what is found

-- a number that none has is found nowhere
pub found_nowhere : (xs : List Indexed) (n : ℕ) → ((j : ℕ) → j < length xs → number_at xs j ≡ n → ⊥) → position_in xs n ≡ None
found_nowhere [] n none = refl
found_nowhere (x ∷ xs) n none = grind (arith, nat_tests, none 0 (omega arith), found_nowhere xs n (λ j lt. none (suc j) (omega (arith, lt))))

-- the first that has the number is found
pub found_first : (xs : List Indexed) (n k : ℕ) → k < length xs → number_at xs k ≡ n → ((j : ℕ) → j < k → number_at xs j < n) → position_in xs n ≡ Some (position_at xs k)
found_first [] n k within is less = absurd (omega (arith, within))
found_first (x ∷ xs) n zero within is less = grind (arith, nat_tests, is)
found_first (x ∷ xs) n (suc k) within is less =
    grind (arith, nat_tests, less 0 (omega arith), found_first xs n k (omega (arith, within)) is (λ j lt. less (suc j) (omega (arith, lt))))
