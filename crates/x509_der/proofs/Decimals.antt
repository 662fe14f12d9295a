-- Numbers in decimal: of one that is put together from two, and of one with more digits.
use Rattle.std.proofs.Common.{◌≡◌, ℕ, zero, suc, ◌+◌, ◌-◌, ◌*◌, ◌/◌, ◌%◌, ◌^◌, ◌<◌, ◌≤◌, List, [], ◌∷◌, ◌++◌, length, replicate, refl, sym, ap, ◌∙◌, arith, inl, inr, append_assoc, append-nil, length-append, get_or, take}
use Rattle.std.proofs.Math.Nat.{pow-suc, mul_assoc, pow-le-pow_right}
use Rattle.std.proofs.lemmas.Bool.{cases_lt}
use Rattle.std.proofs.lemmas.Fmt.{decimal_step_wide, decimal_digit}
use Rattle.std.proofs.lemmas.Int.Digits.{number_more}
use Rattle.std.specs.Fmt.{decimal, styled_decimal, padded_integral, format_spec, char_count}
use Rattle.std.specs.Int.Digits.{number_from_digits}

-- zeros up to k digits
abbrev pub zeros : ℕ → ℕ → List ℕ
zeros k n = replicate (k - length (decimal n)) 48

replicate-push : (k : ℕ) → ◌++◌ {A = ℕ} (replicate k 48) (48 ∷ []) ≡ replicate (suc k) 48
replicate-push zero = refl
replicate-push (suc k) = ap (λ ds. 48 ∷ ds) (replicate-push k)

-- the last k digits, with zeros in front, and one more
zeros-step : (k n : ℕ) → n < 10 ^ 64 → zeros (suc k) (n / 10) ++ decimal (n / 10) ++ (48 + n % 10) ∷ [] ≡ zeros (suc (suc k)) n ++ decimal n
zeros-step k n fits = elim (cases_lt n 10) [
  | inl small ↦
      let none : n / 10 ≡ 0 = omega arith in
      let last : n % 10 ≡ n = omega arith in
      let one : suc k - 1 ≡ k = omega arith in
      let two : suc (suc k) - 1 ≡ suc k = omega arith in
      rw (none, last, decimal_digit n small, decimal_digit 0 (omega arith), one, two) (ap (λ ds. ds ++ (48 + n) ∷ []) (replicate-push k))
  | inr large ↦
      let step = decimal_step_wide n large fits in
      let len : length (decimal n) ≡ length (decimal (n / 10)) + 1 = ap length step ∙ length-append (decimal (n / 10)) _ in
      let same : suc (suc k) - length (decimal n) ≡ suc k - length (decimal (n / 10)) = omega arith in
      rw same (append_assoc (zeros (suc k) (n / 10)) (decimal (n / 10)) ((48 + n % 10) ∷ []) ∙ ap (λ ds. zeros (suc k) (n / 10) ++ ds) (sym step))
]

-- the number's front is that of q, and its last digit that of l
joined-step : (q l : ℕ) → 0 < q → q * 10 + l < 10 ^ 64 → decimal (q * 10 + l) ≡ decimal (q + l / 10) ++ (48 + l % 10) ∷ []
joined-step q l some fits =
    let front : (q * 10 + l) / 10 ≡ q + l / 10 = omega arith in
    let last : (q * 10 + l) % 10 ≡ l % 10 = omega arith in
    let step = decimal_step_wide (q * 10 + l) (omega arith) fits in
    rw (front, last) at step

power : (k : ℕ) → 0 < 10 ^ k
power zero = omega arith
power (suc k) = let p : 10 ^ suc k ≡ 10 ^ k * 10 = pow-suc 10 k in omega (arith, power k)

positive : (h p : ℕ) → 0 < h → 0 < p → 0 < h * p
positive h p a b = grind arith

-- a number of more than k digits: its front, and its last k digits
pub decimal_joined : (k h l : ℕ) → 0 < h → l < 10 ^ suc k → h * 10 ^ suc k + l < 10 ^ 64 → decimal (h * 10 ^ suc k + l) ≡ decimal h ++ (zeros (suc k) l ++ decimal l)
decimal_joined zero h l some below fits =
    let front : h + l / 10 ≡ h = omega arith in
    let last : l % 10 ≡ l = omega arith in
    rw (decimal_digit l below) (rw (front, last) at (joined-step h l some fits))
decimal_joined (suc k) h l some below fits =
    let p : 10 ^ suc (suc k) ≡ 10 ^ suc k * 10 = pow-suc 10 (suc k) in
    let whole : h * 10 ^ suc (suc k) ≡ h * 10 ^ suc k * 10 = ap (λ x. h * x) p ∙ sym (mul_assoc h (10 ^ suc k) 10) in
    let step = joined-step (h * 10 ^ suc k) l (positive h (10 ^ suc k) some (power (suc k))) (omega arith) in
    let front = decimal_joined k h (l / 10) some (omega arith) (omega arith) in
    ap decimal (ap (λ x. x + l) whole) ∙ step ∙ ap (λ ds. ds ++ (48 + l % 10) ∷ []) front
    ∙ append_assoc (decimal h) (zeros (suc k) (l / 10) ++ decimal (l / 10)) ((48 + l % 10) ∷ []) ∙ ap (λ ds. decimal h ++ ds) (zeros-step k l (omega arith))

-- what `{l:036}` writes
padded : (l : ℕ) → styled_decimal (format_spec 32 0 4 36 (2 ^ 64 - 1)) l ≡ zeros 36 l ++ decimal l
unfolding padded_integral char_count
padded l =
    let bare : 36 - length (decimal l) - 0 - 0 ≡ 36 - length (decimal l) = omega arith in
    ap (λ k. replicate k 48 ++ (decimal l ++ [])) bare ∙ ap (λ ds. zeros 36 l ++ ds) (append-nil (decimal l))

-- what `{h}{l:036}` writes
pub decimal_of_two : (h l n : ℕ) → 0 < h → h < 10 ^ 13 → l < 10 ^ 36 → h * 10 ^ 36 + l ≡ n
    → decimal h ++ styled_decimal (format_spec 32 0 4 36 (2 ^ 64 - 1)) l ≡ decimal n
decimal_of_two h l n some small below is =
    let whole = decimal_joined 35 h l some below (omega arith) in
    rw (padded l) (sym whole ∙ ap decimal is)

-- the first octets spell a number below their power
pub front_below : (ds : List ℕ) (i : ℕ) → i ≤ length ds → ((k : ℕ) → get_or ds k 0 < 256) → number_from_digits 256 (take i ds) < 256 ^ i
front_below ds zero le each = omega arith
front_below ds (suc i) le each =
    let p : 256 ^ suc i ≡ 256 ^ i * 256 = pow-suc 256 i in
    let more = number_more 256 ds i (omega arith) in
    let next : i + 1 ≡ suc i = omega arith in
    let digit = each i in
    let before = front_below ds i (omega arith) each in
    let sum : number_from_digits 256 (take (suc i) ds) ≡ number_from_digits 256 (take i ds) * 256 + get_or ds i 0 = rw next at more in
    omega arith

-- and so below that of the most octets that are taken
pub front_small : (ds : List ℕ) (i k : ℕ) → i ≤ length ds → i ≤ k → ((k : ℕ) → get_or ds k 0 < 256) → number_from_digits 256 (take i ds) < 256 ^ k
front_small ds i k le most each =
    let power : 256 ^ i ≤ 256 ^ k = pow-le-pow_right (omega arith) most in
    omega (arith, front_below ds i le each)

-- one more octet, in two digits of base 10^36
pub two_more : (high low octet n : ℕ) → high * 10 ^ 36 + low ≡ n → (high * 256 + (low * 256 + octet) / 10 ^ 36) * 10 ^ 36 + (low * 256 + octet) % 10 ^ 36 ≡ n * 256 + octet
two_more high low octet n is = omega arith
