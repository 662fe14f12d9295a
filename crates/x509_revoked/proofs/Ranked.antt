-- What sorting gives: each entry ranks before those behind it, by its number and then by its position.
use Rattle.std.proofs.Common.{◌≡◌, ℕ, zero, suc, ◌<◌, ◌≤◌, ◌+◌, false, List, [], ◌∷◌, length, map, get_or, subst, arith, is_lt, nat_cmp}
use Rattle.std.specs.List.{All}
use Rattle.std.specs.Ordering.{ordering_then}
use Rattle.std.specs.declared.cmp.Ordering.{Ordering}
use Rattle.std.proofs.lemmas.Bool.Decides.{nat_tests}
use Rattle.std.proofs.lemmas.List.Elements.{All-nil, All-cons, All-weaker}
use Rattle.x509_revoked.specs.Entries.{Indexed, AreInOrder}
use Rattle.x509_revoked.proofs.Least.{IsBehind, AreTiesInOrder}

pub record IsBefore (x y : Indexed) : Type 0 where
  pub number : x.number ≤ y.number
  pub position : x.number ≡ y.number → x.position ≤ y.position

before_both : (x y z : Indexed) → IsBefore x y → IsBefore y z → IsBefore x z
before_both x y z a b = record {
  number = omega (arith, a.number, b.number);
  position = λ same. omega (arith, a.position (omega (arith, same, a.number, b.number)), b.position (omega (arith, same, a.number, b.number)));
}

before_of : (m n p q : ℕ) → is_lt (ordering_then (nat_cmp n m) (nat_cmp q p)) ≡ false → IsBefore (record { number = m; position = p }) (record { number = n; position = q })
before_of m n p q e = record {
  number = grind (arith, nat_tests, e);
  position = λ same. grind (arith, nat_tests, e, same);
}

abbrev pub AreRanked : List Indexed → Type 0
AreRanked [] = Unit {0}
AreRanked (x ∷ xs) = All (IsBefore x) xs × AreRanked xs

-- by the number, and then by the position
abbrev pub compared : Indexed → Indexed → Ordering
compared x y = ordering_then (nat_cmp x.number y.number) (nat_cmp x.position y.position)

-- what stands in a list for an entry each, of which none is less than the one before it
ranked_of : {X : Type 0} (f : X → Indexed) (xs : List X) → ((k : ℕ) (d : X) → suc k < length xs → is_lt (compared (f (get_or xs (suc k) d)) (f (get_or xs k d))) ≡ false) → AreRanked (map f xs)
ranked_of f [] h = tt
ranked_of f (x ∷ []) h = (All-nil (IsBefore (f x)), tt)
ranked_of f (x ∷ y ∷ xs) h =
    let rest = ranked_of f (y ∷ xs) (λ k d lt. h (suc k) d (omega (arith, lt))) in
    let first : IsBefore (f x) (f y) = before_of (f x).number (f y).number (f x).position (f y).position (h 0 x (omega arith)) in
    (All-cons (IsBefore (f x)) (f y) (map f xs) first (All-weaker (IsBefore (f y)) (IsBefore (f x)) (λ z. before_both (f x) (f y) z first) (map f xs) rest.0), rest)

pub ranked_sorted : {X : Type 0} (f : X → Indexed) (xs : List X) → ((k : ℕ) (d : X) → 0 ≤ k → k + 1 < length xs → is_lt (compared (f (get_or xs (k + 1) d)) (f (get_or xs k d))) ≡ false) → AreRanked (map f xs)
ranked_sorted f xs sorted =
    ranked_of f xs (λ k d lt. subst (λ j. is_lt (compared (f (get_or xs j d)) (f (get_or xs k d))) ≡ false) {x = k + 1} {y = suc k} (omega arith) (sorted k d (omega arith) (omega (arith, lt))))

pub ties_of : (xs : List Indexed) → AreRanked xs → AreTiesInOrder xs
ties_of [] h = tt
ties_of (x ∷ xs) h = (All-weaker (IsBefore x) (IsBehind x.number x.position) (λ y b same. b.position (omega (arith, same))) xs h.0, ties_of xs h.1)

pub order_of : (xs : List Indexed) → AreRanked xs → AreInOrder xs
order_of [] h i j le lt = absurd (omega (arith, lt))
order_of (x ∷ xs) h zero zero le lt = omega arith
order_of (x ∷ xs) h zero (suc j) le lt = (h.0 j (record { number = 0; position = 0 }) (omega (arith, lt))).number
order_of (x ∷ xs) h (suc i) zero le lt = absurd (omega (arith, le))
order_of (x ∷ xs) h (suc i) (suc j) le lt = order_of xs h.1 i j (omega (arith, le)) (omega (arith, lt))
