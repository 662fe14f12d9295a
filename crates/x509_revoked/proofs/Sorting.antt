-- Two lists of numbers that don't fall, with the same elements, are one list.
use Rattle.std.proofs.Common.{◌≡◌, ℕ, suc, ◌≤◌, ◌<◌, cond, List, [], ◌∷◌, length, get_or, refl, sym, ap, arith}
use Rattle.std.specs.Prelude.{nat_lt}
use Rattle.std.specs.List.{sum_by}
use Rattle.std.specs.List.Sorted.{IsPermutation, IsNonDecreasing}
use Rattle.std.proofs.lemmas.Bool.Decides.{nat_tests}
use Rattle.std.proofs.lemmas.List.Sorted.{sum_by-IsPermutation}
use Rattle.std.proofs.lemmas.List.Sums.{sum_by-cons}

-- each of these is as great, or greater
abbrev pub Above : ℕ → List ℕ → Type 0
Above x [] = Unit {0}
Above x (y ∷ ys) = (x ≤ y) × Above x ys

abbrev pub Up : List ℕ → Type 0
Up [] = Unit {0}
Up (x ∷ xs) = Above x xs × Up xs

abbrev below : ℕ → ℕ → ℕ
below x y = cond (nat_lt y x) 1 0

none_below : (x : ℕ) (ys : List ℕ) → Above x ys → sum_by (below x) ys ≡ 0
none_below x [] h = refl
none_below x (y ∷ ys) h =
    let rest = none_below x ys h.1 in
    let first : below x y ≡ 0 = grind (arith, nat_tests, h.0) in
    omega (arith, sum_by-cons (below x) y ys, first, rest)

not_below : (x y : ℕ) → below x y ≡ 0 → x ≤ y
not_below x y e = grind (arith, nat_tests, e)

abbrev SameSums : List ℕ → List ℕ → Type 0
SameSums xs ys = (f : ℕ → ℕ) → sum_by f xs ≡ sum_by f ys

least : (x y : ℕ) (xs ys : List ℕ) → Above y ys → SameSums (x ∷ xs) (y ∷ ys) → y ≤ x
least x y xs ys h same =
    let none = none_below y (y ∷ ys) (omega arith, h) in
    not_below y x (omega (arith, none, same (below y), sum_by-cons (below y) x xs))

one_list : (xs ys : List ℕ) → Up xs → Up ys → SameSums xs ys → xs ≡ ys
one_list [] [] a b same = refl
one_list [] (y ∷ ys) a b same = absurd (omega (arith, same (λ _. 1), sum_by-cons (λ _. 1) y ys))
one_list (x ∷ xs) [] a b same = absurd (omega (arith, same (λ _. 1), sum_by-cons (λ _. 1) x xs))
one_list (x ∷ xs) (y ∷ ys) a b same =
    let first : x ≡ y = omega (arith, least x y xs ys b.0 same, least y x ys xs a.0 (λ f. sym (same f))) in
    let rest : xs ≡ ys = one_list xs ys a.1 b.1 (λ f. omega (arith, same f, sum_by-cons f x xs, sum_by-cons f y ys, ap f first)) in
    cc

above_of : (x : ℕ) (ys : List ℕ) → ((j : ℕ) → j < length ys → x ≤ get_or ys j 0) → Above x ys
above_of x [] h = tt
above_of x (y ∷ ys) h = (h 0 (omega arith), above_of x ys (λ j lt. h (suc j) (omega (arith, lt))))

up_of : (xs : List ℕ) → ((i j : ℕ) → i ≤ j → j < length xs → get_or xs i 0 ≤ get_or xs j 0) → Up xs
up_of [] h = tt
up_of (x ∷ xs) h = (above_of x xs (λ j lt. h 0 (suc j) (omega arith) (omega (arith, lt))), up_of xs (λ i j le lt. h (suc i) (suc j) (omega (arith, le)) (omega (arith, lt))))

pub up_sorted : (xs : List ℕ) → IsNonDecreasing xs → Up xs
up_sorted xs h = up_of xs (λ i j le lt. h i j 0 le lt)

pub sorted_once : (xs ys : List ℕ) → Up xs → Up ys → IsPermutation xs ys → xs ≡ ys
sorted_once xs ys a b same = one_list xs ys a b (λ f. sym (sum_by-IsPermutation f xs ys same))
