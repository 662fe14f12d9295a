-- Heads are in the order of the numbers, and what octets say of them.
use Rattle.std.proofs.Common.{◌≡◌, ℕ, zero, suc, ◌+◌, ◌-◌, ◌*◌, ◌/◌, ◌^◌, ◌<◌, ◌≤◌, List, [], ◌∷◌, length, take}
use Rattle.std.proofs.Common.{drop, cond, true, false, refl, ap, sym, subst, ◌∙◌, inl, inr, arith, nat_cmp, Ordering, Less, Equal, Greater}
use Rattle.std.specs.Prelude.{nat_lt}
use Rattle.std.specs.Ordering.{ordering_then, is_ne}
use Rattle.std.specs.Int.Digits.{number_from_digits, number_from_digits_after, digits_of, AllBelowBase}
use Rattle.std.proofs.Math.Nat.{pow-suc, pow-le-pow_right, one-le-pow, div-eq_of_lt-le, div-mul-le_self}
use Rattle.std.proofs.lemmas.Nat.{pow-add, div_below, le-div}
use Rattle.std.proofs.lemmas.Bool.{cases_lt}
use Rattle.std.proofs.lemmas.Bool.Decides.{nat_tests}
use Rattle.std.proofs.lemmas.List.{take-append-drop, length-drop}
use Rattle.std.proofs.lemmas.Int.Digits.{number_after_append, number_after_lt, number_lt, number_digits_of, all_below_base_digits_of, length-digits_of-le}
use Rattle.x509_der.proofs.UnsignedLemmas.{IsNumeral, digits_of-number}
use Rattle.x509_revoked.specs.SerialHead.{octet_count, serial_head}

below_power : (n : ℕ) → n < 256 ^ octet_count n
below_power n = subst (λ m. m < 256 ^ octet_count n) (number_digits_of 256 n (omega arith))
    (number_lt 256 (digits_of 256 n) (all_below_base_digits_of 256 n (omega arith)))

counts_grow : (m n : ℕ) → m ≤ n → octet_count m ≤ octet_count n
counts_grow m n le = length-digits_of-le 256 (octet_count n) m (omega arith) (omega (arith, le, below_power n))

-- the first seven octets of a number with so many fit seven octets
first_below : (n c : ℕ) → n < 256 ^ c → n / 256 ^ (c - 7) < 2 ^ 56
first_below n c below =
    let enough : 256 ^ c ≤ 256 ^ (7 + (c - 7)) = pow-le-pow_right (omega arith) (omega arith) in
    let parts : 256 ^ (7 + (c - 7)) ≡ 256 ^ 7 * 256 ^ (c - 7) = pow-add 256 7 (c - 7) in
    let one : 1 ≤ 256 ^ (c - 7) = one-le-pow (c - 7) 256 (omega arith) in
    div_below n (256 ^ (c - 7)) (2 ^ 56) (omega (arith, one)) (omega (arith, below, enough, parts))

div_grows : (m n k : ℕ) → 0 < k → m ≤ n → m / k ≤ n / k
div_grows m n k some le = le-div (m / k) n k some (omega (arith, div-mul-le_self m k, le))

-- ---- heads are in order

nat_cond : (c a b : ℕ) → c < 256 → cond (nat_lt c 256) a b ≡ a
nat_cond c a b small = grind (arith, nat_tests, small)

many_cond : (c a b : ℕ) → 256 ≤ c → cond (nat_lt c 256) a b ≡ b
many_cond c a b many = grind (arith, nat_tests, many)

pub head_is : (n : ℕ) → octet_count n < 256 → serial_head n ≡ octet_count n * 2 ^ 56 + n / 256 ^ (octet_count n - 7)
unfolding serial_head
head_is n few = nat_cond (octet_count n) _ _ few

pub head_of_many : (n : ℕ) → 256 ≤ octet_count n → serial_head n ≡ 2 ^ 64 - 1
unfolding serial_head
head_of_many n many = many_cond (octet_count n) _ _ many

-- a head of another count of octets, and of so much behind it
more_octets : (a b x y : ℕ) → a < b → x < 2 ^ 56 → a * 2 ^ 56 + x ≤ b * 2 ^ 56 + y
more_octets a b x y less small = omega (arith, less, small)

same_count : (m n a b : ℕ) → m ≤ n → a ≡ b → a * 2 ^ 56 + m / 256 ^ (a - 7) ≤ b * 2 ^ 56 + n / 256 ^ (b - 7)
same_count m n a b le same =
    let one : 1 ≤ 256 ^ (b - 7) = one-le-pow (b - 7) 256 (omega arith) in
    let grown = div_grows m n (256 ^ (b - 7)) (omega (arith, one)) le in
    subst (λ (k : ℕ). k * 2 ^ 56 + m / 256 ^ (k - 7) ≤ b * 2 ^ 56 + n / 256 ^ (b - 7)) (sym same) (omega (arith, grown))

heads_few : (m n : ℕ) → m ≤ n → octet_count n < 256 → serial_head m ≤ serial_head n
heads_few m n le few =
    let fewer = counts_grow m n le in
    let here = head_is m (omega (arith, fewer, few)) in
    let there = head_is n few in
    elim (cases_lt (octet_count m) (octet_count n)) [
      | inl less ↦ omega (
        arith,
        here,
        there,
        more_octets (octet_count m) (octet_count n) (m / 256 ^ (octet_count m - 7))
            (n / 256 ^ (octet_count n - 7)) less (first_below m (octet_count m) (below_power m)),
      )
      | inr not ↦ omega (arith, here, there, same_count m n (octet_count m) (octet_count n) le (omega (arith, fewer, not)))
    ]

head_small : (n : ℕ) → serial_head n ≤ 2 ^ 64 - 1
head_small n =
    elim (cases_lt (octet_count n) 256) [
      | inl few ↦ omega (arith, few, head_is n few, first_below n (octet_count n) (below_power n))
      | inr many ↦ omega (arith, head_of_many n many)
    ]

-- heads in order follow serials in order
pub heads_follow : (m n : ℕ) → m ≤ n → serial_head m ≤ serial_head n
heads_follow m n le =
    elim (cases_lt (octet_count n) 256) [
      | inl few ↦ heads_few m n le few
      | inr many ↦ omega (arith, head_of_many n many, head_small m)
    ]

order_then : (h k m n : ℕ) → (m ≤ n → h ≤ k) → (n ≤ m → k ≤ h) → ordering_then (nat_cmp h k) (nat_cmp m n) ≡ nat_cmp m n
order_then h k m n up down = elim (cases_lt m n) [
  | inl less ↦ grind (arith, nat_tests, less, up (omega (arith, less)))
  | inr not ↦ elim (cases_lt n m) [
    | inl more ↦ grind (arith, nat_tests, more, down (omega (arith, more)))
    | inr neither ↦ (let same : m ≡ n = omega (arith, not, neither) in grind (arith, nat_tests, same, up (omega (arith, same)), down (omega (arith, same))))
  ]
]

-- so where heads differ, they tell the order
pub heads_first : (m n h k : ℕ) → h ≡ serial_head m → k ≡ serial_head n → ordering_then (nat_cmp h k) (nat_cmp m n) ≡ nat_cmp m n
heads_first m n h k mine yours =
    order_then h k m n (λ le. omega (arith, mine, yours, heads_follow m n le)) (λ le. omega (arith, mine, yours, heads_follow n m le))

-- a lesser head is that of a lesser number
pub less_by_heads : (m n h k : ℕ) → h ≡ serial_head m → k ≡ serial_head n → h < k → Less ≡ nat_cmp m n
less_by_heads m n h k mine yours lt = elim (cases_lt m n) [
  | inl less ↦ grind (arith, nat_tests, less)
  | inr not ↦ absurd (omega (arith, mine, yours, lt, heads_follow n m (omega (arith, not))))
]

-- and a greater one that of a greater number
pub greater_by_heads : (m n h k : ℕ) → h ≡ serial_head m → k ≡ serial_head n → k < h → Greater ≡ nat_cmp m n
greater_by_heads m n h k mine yours lt = elim (cases_lt n m) [
  | inl more ↦ grind (arith, nat_tests, more)
  | inr not ↦ absurd (omega (arith, mine, yours, lt, heads_follow m n (omega (arith, not))))
]

pub first_differs : (a b : Ordering) → is_ne a ≡ true → a ≡ ordering_then a b
first_differs Less b e = refl
first_differs Equal b e = absurd (cc)
first_differs Greater b e = refl

pub first_ties : (a b : Ordering) → is_ne a ≡ false → b ≡ ordering_then a b
first_ties Less b e = absurd (cc)
first_ties Equal b e = refl
first_ties Greater b e = absurd (cc)

-- ---- of octets

-- so many digits behind a number
behind_number : (q : ℕ) (ds : List ℕ) → q * 256 ^ length ds ≤ number_from_digits_after 256 q ds
behind_number q [] = omega arith
behind_number q (d ∷ ds) =
    let p : 256 ^ length (d ∷ ds) ≡ 256 ^ length ds * 256 = pow-suc 256 (length ds) in
    rw p (omega (arith, behind_number (q * 256 + d) ds))

below_drop : (k : ℕ) (ds : List ℕ) → AllBelowBase 256 ds → AllBelowBase 256 (drop k ds)
below_drop zero ds h = h
below_drop (suc k) [] h = h
below_drop (suc k) (d ∷ ds) h = below_drop k ds h.1

first_seven : (ds : List ℕ) → AllBelowBase 256 ds → number_from_digits 256 ds / 256 ^ (length ds - 7) ≡ number_from_digits 256 (take 7 ds)
first_seven ds below =
    let q = number_from_digits 256 (take 7 ds) in
    let long : length (drop 7 ds) ≡ length ds - 7 = length-drop 7 ds in
    let whole : number_from_digits 256 ds ≡ number_from_digits_after 256 q (drop 7 ds) = ap (number_from_digits 256) (sym (take-append-drop 7 ds))
    ∙ number_after_append 256 0 (take 7 ds) (drop 7 ds) in
    let least = behind_number q (drop 7 ds) in
    let most = number_after_lt 256 q (drop 7 ds) (below_drop 7 ds below) in
    subst (λ (k : ℕ). number_from_digits 256 ds / 256 ^ k ≡ q) long
    (div-eq_of_lt-le (256 ^ length (drop 7 ds)) (omega (arith, least, whole)) (omega (arith, most, whole)))

-- the count of the octets of a numeral
pub count_of : (ds : List ℕ) → IsNumeral ds → octet_count (number_from_digits 256 ds) ≡ length ds
count_of ds is = ap length (digits_of-number ds is)

pub head_of_octets : (ds : List ℕ) → IsNumeral ds → length ds < 256
    → length ds * 2 ^ 56 + number_from_digits 256 (take 7 ds) ≡ serial_head (number_from_digits 256 ds)
head_of_octets ds is few =
    let n = number_from_digits 256 ds in
    let count = count_of ds is in
    let head = head_is n (omega (arith, count, few)) in
    let first : n / 256 ^ (octet_count n - 7) ≡ number_from_digits 256 (take 7 ds) = ap (λ c. n / 256 ^ (c - 7)) count ∙ first_seven ds is.below in
    omega (arith, head, count, first)

-- ---- one octet more

pub one_more : (i a o : ℕ) → a < 256 ^ i → o < 256 → a * 256 + o < 256 ^ (i + 1)
one_more i a o below octet =
    let p : 256 ^ (i + 1) ≡ 256 ^ i * 256 ^ 1 = pow-add 256 i 1 in
    omega (arith, p, below, octet)

pub at_most_seven : (i a : ℕ) → i ≤ 7 → a < 256 ^ i → a < 2 ^ 56
at_most_seven i a few below =
    let power : 256 ^ i ≤ 256 ^ 7 = pow-le-pow_right (omega arith) few in
    omega (arith, power, below)
