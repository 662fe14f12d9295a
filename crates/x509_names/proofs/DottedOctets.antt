-- The octets of numbers, and the numbers of octets.
use Rattle.std.proofs.Common.{◌≡◌, ℕ, ◌+◌, ◌-◌, ◌*◌, ◌/◌, ◌%◌, ◌^◌, ◌<◌, ◌≤◌, true, false, List, [], ◌∷◌, ◌++◌, length, get_or, map, flat_map, min, cond, eqb, ltb, refl, sym, ap, ◌∙◌, arith, length-append, ◌⊎◌, inl, inr}
use Rattle.std.proofs.lemmas.Bool.{cases_lt, lt-ltb}
use Rattle.std.proofs.lemmas.Bool.Decides.{nat_tests}
use Rattle.std.proofs.lemmas.Int.Digits.{digits_of_step, number_digits_of, all_below_base_digits_of, first_digits_of}
use Rattle.std.proofs.lemmas.List.{map-append, get_or_at, get_or_past}
use Rattle.std.proofs.lemmas.List.Elements.{All-cons, All-head, All-tail, All-nil, All-from_recursion, All-map, All-weaker, All-append, All-push}
use Rattle.std.specs.Int.Digits.{digits_of, number_from_digits, number_from_digits_after, AllBelowBase}
use Rattle.std.specs.List.{All, list_all}
use Rattle.x509_der.specs.Laws.{IsBytes}
use Rattle.x509_der.specs.Oid.{groups, in_first, base_128, is_number, is_dotted, components, dotted, oid_text}
use Rattle.x509_der.proofs.OidNumbers.{value_from, value_from_none, at_least-ltb}
use Rattle.x509_names.specs.Arcs.{leading_octets, number_octets, numbers, encoded, most_second, AreArcs}

-- one digit more
pub leading_octets-step : (n : ℕ) → 0 < n → leading_octets n ≡ leading_octets (n / 128) ++ (0x80 + n % 128) ∷ []
leading_octets-step n some = ap (map (λ d. 0x80 + d)) (digits_of_step 128 n (omega arith) some) ∙ map-append (λ d. 0x80 + d) (digits_of 128 (n / 128)) (n % 128 ∷ [])

-- ---- a number's octets are one group

-- digits with bit 8 set, and a last one
abbrev pub spelled : List ℕ → ℕ → List ℕ
spelled ds d = map (λ d. 0x80 + d) ds ++ d ∷ []

groups-spelled : (ds : List ℕ) (d : ℕ) (rest : List ℕ) → d < 128 → groups (spelled ds d ++ rest) ≡ spelled ds d ∷ groups rest
unfolding groups
groups-spelled [] d rest last = ap (λ t. cond t ((d ∷ []) ∷ groups rest) (in_first d (groups rest))) (lt-ltb d 128 last)
groups-spelled (b ∷ ds) d rest last =
    let more = groups-spelled ds d rest last in
    rw (at_least-ltb (0x80 + b) 128 (omega arith), more) refl

value_from-spelled : (v : ℕ) (ds : List ℕ) (d : ℕ) → AllBelowBase 128 ds → d < 128 → value_from v (spelled ds d) ≡ number_from_digits_after 128 v ds * 128 + d
unfolding value_from
value_from-spelled v [] d below last = let m : d % 128 ≡ d = omega arith in ap (λ x. v * 128 + x) m
value_from-spelled v (b ∷ ds) d below last =
    let b_low = below.0 in
    let m : (0x80 + b) % 128 ≡ b = omega arith in
    ap (λ x. value_from (v * 128 + x) (spelled ds d)) m ∙ value_from-spelled (v * 128 + b) ds d below.1 last

pub base_128-spelled : (ds : List ℕ) (d : ℕ) → AllBelowBase 128 ds → d < 128 → base_128 (spelled ds d) ≡ number_from_digits 128 ds * 128 + d
base_128-spelled ds d below last = sym (value_from_none (spelled ds d)) ∙ value_from-spelled 0 ds d below last

base_128-number_octets : (n : ℕ) → base_128 (number_octets n) ≡ n
base_128-number_octets n =
    let below = all_below_base_digits_of 128 (n / 128) (omega arith) in
    let front = number_digits_of 128 (n / 128) (omega arith) in
    base_128-spelled (digits_of 128 (n / 128)) (n % 128) below (omega arith) ∙ rw front (omega arith)

pub last-spelled : (ds : List ℕ) (d : ℕ) → get_or (spelled ds d) (length (spelled ds d) - 1) 0 ≡ d
last-spelled ds d =
    let front = map (λ d. 0x80 + d) ds in
    let n : length (front ++ d ∷ []) - 1 ≡ length front = omega (arith, length-append front (d ∷ [])) in
    rw n (get_or_at front d [] 0 (length front) refl)

first-spelled : (ds : List ℕ) (d : ℕ) → d < 128 → (0 < length ds → 0 < get_or ds 0 0) → eqb (get_or (spelled ds d) 0 0) 0x80 ≡ false
first-spelled [] d last first = grind (arith, nat_tests)
first-spelled (b ∷ ds) d last first = let some : 0 < b = first (omega arith) in grind (arith, nat_tests)

first_digit : (n : ℕ) → 0 < length (digits_of 128 n) → 0 < get_or (digits_of 128 n) 0 0
first_digit n some = elim (cases_lt 0 n) [
  | inl positive ↦ first_digits_of 128 n (omega arith) positive
  | inr none ↦
      let zero : n ≡ 0 = omega arith in
      absurd (let e : length (digits_of 128 n) ≡ 0 = rw zero refl in omega arith)
]

is_number-number_octets : (n : ℕ) → n < 2 ^ 64 → is_number (number_octets n) ≡ true
is_number-number_octets n small =
    let ds = digits_of 128 (n / 128) in
    let last : ltb (get_or (number_octets n) (length (number_octets n) - 1) 0) 0x80 ≡ true = rw (last-spelled ds (n % 128)) (lt-ltb (n % 128) 0x80 (omega arith)) in
    let first : eqb (get_or (number_octets n) 0 0) 0x80 ≡ false = first-spelled ds (n % 128) (omega arith) (first_digit (n / 128)) in
    let value : ltb (base_128 (number_octets n)) (2 ^ 64) ≡ true = rw (base_128-number_octets n) (lt-ltb n (2 ^ 64) small) in
    rw (last, first, value) refl

-- ---- the octets of several numbers

abbrev Fit : List ℕ → Type 0
Fit ns = All (λ n. n < 2 ^ 64) ns

groups-flat_map : (ns : List ℕ) → groups (flat_map number_octets ns) ≡ map number_octets ns
unfolding groups
groups-flat_map [] = refl
groups-flat_map (n ∷ ns) = groups-spelled (digits_of 128 (n / 128)) (n % 128) (flat_map number_octets ns) (omega arith) ∙ ap (λ gs. number_octets n ∷ gs) (groups-flat_map ns)

all_numbers : (ns : List ℕ) → Fit ns → list_all is_number (map number_octets ns) ≡ true
all_numbers [] fit = refl
all_numbers (n ∷ ns) fit = rw (is_number-number_octets n (All-head (λ n. n < 2 ^ 64) n ns fit), all_numbers ns (All-tail (λ n. n < 2 ^ 64) n ns fit)) refl

values : (ns : List ℕ) → map base_128 (map number_octets ns) ≡ ns
values [] = refl
values (n ∷ ns) = rw (base_128-number_octets n, values ns) refl

some_octets : (n : ℕ) (ns : List ℕ) → eqb (length (flat_map number_octets (n ∷ ns))) 0 ≡ false
some_octets n ns =
    let front = leading_octets (n / 128) in
    let a = length-append (front ++ n % 128 ∷ []) (flat_map number_octets ns) in
    let b = length-append front (n % 128 ∷ []) in
    grind (arith, nat_tests)

is_dotted-flat_map : (n : ℕ) (ns : List ℕ) → Fit (n ∷ ns) → is_dotted (flat_map number_octets (n ∷ ns)) ≡ true
is_dotted-flat_map n ns fit = rw (some_octets n ns, groups-flat_map (n ∷ ns), all_numbers (n ∷ ns) fit) refl

pub oid_text-dotted : (octets : List ℕ) → is_dotted octets ≡ true → oid_text octets ≡ dotted (components (map base_128 (groups octets)))
oid_text-dotted octets is = rw is refl

oid_text-flat_map : (n : ℕ) (ns : List ℕ) → Fit (n ∷ ns) → oid_text (flat_map number_octets (n ∷ ns)) ≡ dotted (components (n ∷ ns))
oid_text-flat_map n ns fit =
    oid_text-dotted (flat_map number_octets (n ∷ ns)) (is_dotted-flat_map n ns fit)
    ∙ ap (λ gs. dotted (components (map base_128 gs))) (groups-flat_map (n ∷ ns)) ∙ ap (λ ns. dotted (components ns)) (values (n ∷ ns))

-- ---- the octets of arcs

-- the first two are arcs
abbrev pub Begins : ℕ → ℕ → Type 0
Begins top next = (top ≤ 2) × (next ≤ most_second top)

pub first_two : (top next : ℕ) → Begins top next → ((top < 2) × (next ≤ 39)) ⊎ ((top ≡ 2) × (next ≤ 2 ^ 64 - 1 - 80))
first_two top next begins = elim (cases_lt top 2) [
  | inl low ↦ inl (low, rw (lt-ltb top 2 low) at begins.1)
  | inr high ↦ let two : top ≡ 2 = (let s = begins.0 in omega arith) in inr (two, rw two at begins.1)
]

number_fits : (top next : ℕ) → Begins top next → 40 * top + next < 2 ^ 64
number_fits top next begins = elim (first_two top next begins) [ inl low ↦ (let a = low.0 in let b = low.1 in omega arith) | inr high ↦ (let a = high.0 in let b = high.1 in omega arith) ]

components-numbers : (top next : ℕ) (arcs : List ℕ) → Begins top next → components (numbers (top ∷ next ∷ arcs)) ≡ top ∷ next ∷ arcs
components-numbers top next arcs begins =
    let front : min 2 ((40 * top + next) / 40) ≡ top =
    elim (first_two top next begins) [ inl low ↦ (let a = low.0 in let b = low.1 in omega arith) | inr high ↦ (let a = high.0 in let b = high.1 in omega arith) ] in
    let back : 40 * top + next - 40 * top ≡ next = omega arith in
    rw (front, back) refl

-- what is parsed has the text that was given
pub oid_text-encoded : (arcs : List ℕ) → AreArcs arcs → oid_text (encoded arcs) ≡ dotted arcs
oid_text-encoded [] are = absurd are
oid_text-encoded (x ∷ []) are = absurd are
oid_text-encoded (x ∷ y ∷ arcs) are =
    let begins : Begins x y = (are.0, are.1) in
    let fit = All-cons (λ n. n < 2 ^ 64) (40 * x + y) arcs (number_fits x y begins) are.2 in
    oid_text-flat_map (40 * x + y) arcs fit ∙ ap dotted (components-numbers x y arcs begins)

pub is_dotted-encoded : (arcs : List ℕ) → AreArcs arcs → is_dotted (encoded arcs) ≡ true
is_dotted-encoded [] are = absurd are
is_dotted-encoded (x ∷ []) are = absurd are
is_dotted-encoded (x ∷ y ∷ arcs) are = is_dotted-flat_map (40 * x + y) arcs (All-cons (λ n. n < 2 ^ 64) (40 * x + y) arcs (number_fits x y (are.0, are.1)) are.2)

-- ---- they are octets

below_256 : (ns : List ℕ) → All (λ b. b < 256) (flat_map number_octets ns)
below_256 [] = All-nil (λ b. b < 256)
below_256 (n ∷ ns) =
    let below = All-from_recursion (λ d. d < 128) (digits_of 128 (n / 128)) (all_below_base_digits_of 128 (n / 128) (omega arith)) in
    let front = All-map (λ b. b < 256) (λ d. 0x80 + d) (digits_of 128 (n / 128)) (All-weaker (λ d. d < 128) (λ d. 0x80 + d < 256) (λ d low. omega arith) (digits_of 128 (n / 128)) below) in
    All-append (λ b. b < 256) (number_octets n) (flat_map number_octets ns) (All-push (λ b. b < 256) (leading_octets (n / 128)) (n % 128) front (omega arith)) (below_256 ns)

IsBytes-All : (bytes : List ℕ) → All (λ b. b < 256) bytes → IsBytes bytes
IsBytes-All bytes all = λ i. elim (cases_lt i (length bytes)) [
  | inl within ↦ all i 0 within
  | inr past ↦ rw (get_or_past bytes i 0 past) (omega arith)
]

pub IsBytes-encoded : (arcs : List ℕ) → IsBytes (encoded arcs)
IsBytes-encoded arcs = IsBytes-All (encoded arcs) (below_256 (numbers arcs))
