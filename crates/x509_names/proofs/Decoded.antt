-- Octets in dotted form are those of the arcs that they show.
use Rattle.std.proofs.Common.{◌≡◌, ℕ, suc, zero, ◌+◌, ◌-◌, ◌*◌, ◌/◌, ◌%◌, ◌^◌, ◌<◌, ◌≤◌, Bool, true, false, not, ◌&&◌, List, [], ◌∷◌, ◌++◌, length, get_or, take, map, flat_map, min, cond, eqb, ltb, refl, sym, ap, subst, ◌∙◌, arith, length-take, inl, inr}
use Rattle.std.proofs.lemmas.Bool.{cases_lt, lt-ltb, ltb-true}
use Rattle.std.proofs.lemmas.Bool.Decides.{nat_tests}
use Rattle.std.proofs.lemmas.Int.Digits.{digits_of_step, number_more}
use Rattle.std.proofs.lemmas.List.Elements.{All-cons, All-head, All-tail, All-nil, All-from_recursion}
use Rattle.std.proofs.Math.Seq.{take-suc, take-length}
use Rattle.std.specs.Int.Digits.{digits_of, number_from_digits, AllBelowBase}
use Rattle.std.specs.List.{All, AllByRecursion, list_all}
use Rattle.x509_der.specs.Laws.{IsBytes}
use Rattle.x509_der.specs.Oid.{groups, in_first, base_128, is_number, are_numbers, is_dotted, components, dotted, oid_text}
use Rattle.x509_der.proofs.OidNumbers.{at_least-ltb}
use Rattle.x509_names.specs.Arcs.{number_octets, numbers, most_second, AreArcs, IsDottedText}
use Rattle.x509_names.proofs.DottedOctets.{spelled, last-spelled, base_128-spelled, oid_text-dotted}

-- ---- digits are the digits of their number

digits_again_front : (ds : List ℕ) (i : ℕ) → i ≤ length ds → AllBelowBase 128 ds → 0 < get_or ds 0 0
    → digits_of 128 (number_from_digits 128 (take i ds)) ≡ take i ds
digits_again_front ds zero le below first = refl
digits_again_front ds (suc i) le below first =
    let n = number_from_digits 128 (take i ds) in
    let d = get_or ds i 0 in
    let before : digits_of 128 n ≡ take i ds = digits_again_front ds i (omega arith) below first in
    let low : d < 128 = All-from_recursion (λ d. d < 128) ds below i 0 (omega arith) in
    let next : i + 1 ≡ suc i = omega arith in
    let more : number_from_digits 128 (take (suc i) ds) ≡ n * 128 + d = rw next at (number_more 128 ds i (omega arith)) in
    let some : 0 < n * 128 + d = elim (cases_lt 0 n) [
      | inl positive ↦ omega arith
      | inr none ↦
          let zero : n ≡ 0 = omega arith in
          let empty : take i ds ≡ [] = sym before ∙ ap (digits_of 128) zero in
          let start : i ≡ 0 = omega (arith, ap length empty, length-take i ds) in
          let head : d ≡ get_or ds 0 0 = ap (λ k. get_or ds k 0) start in
          omega arith
    ] in
    let front : (n * 128 + d) / 128 ≡ n = omega arith in
    let last : (n * 128 + d) % 128 ≡ d = omega arith in
    let step = digits_of_step 128 (n * 128 + d) (omega arith) some in
    ap (digits_of 128) more ∙ step ∙ rw (front, last) (ap (λ t. t ++ d ∷ []) before) ∙ sym (take-suc ds i 0 (omega arith))

digits_again : (ds : List ℕ) → AllBelowBase 128 ds → (0 < length ds → 0 < get_or ds 0 0) → digits_of 128 (number_from_digits 128 ds) ≡ ds
digits_again [] below first = refl
digits_again (d ∷ ds) below first =
    let whole : take (length (d ∷ ds)) (d ∷ ds) ≡ d ∷ ds = take-length (d ∷ ds) in
    sym (ap (λ ds. digits_of 128 (number_from_digits 128 ds)) whole) ∙ digits_again_front (d ∷ ds) (length (d ∷ ds)) (omega arith) below (first (omega arith)) ∙ whole

-- ---- the form of each group

record IsSpelled (g : List ℕ) : Type 0 where
  digits : List ℕ
  last : ℕ
  is : g ≡ spelled digits last
  below : AllBelowBase 128 digits

groups-low : (b : ℕ) (bs : List ℕ) → b < 128 → groups (b ∷ bs) ≡ (b ∷ []) ∷ groups bs
unfolding groups
groups-low b bs low = ap (λ t. cond t ((b ∷ []) ∷ groups bs) (in_first b (groups bs))) (lt-ltb b 128 low)

groups-high : (b : ℕ) (bs : List ℕ) → 128 ≤ b → groups (b ∷ bs) ≡ in_first b (groups bs)
unfolding groups
groups-high b bs high = ap (λ t. cond t ((b ∷ []) ∷ groups bs) (in_first b (groups bs))) (at_least-ltb b 128 high)

onto_first : (b : ℕ) (gs : List (List ℕ)) → 128 ≤ b → b < 256 → AllByRecursion IsSpelled gs → AllByRecursion IsSpelled (in_first b gs)
onto_first b [] high byte all = (record { digits = []; last = b; is = refl; below = tt }, tt)
onto_first b (g ∷ gs) high byte all =
    let first = all.0 in
    let digit : 0x80 + (b - 0x80) ≡ b = omega arith in
    (record { digits = (b - 0x80) ∷ first.digits; last = first.last; is = rw (digit, first.is) refl; below = (omega arith, first.below) }, all.1)

spelled_groups : (octets : List ℕ) → IsBytes octets → AllByRecursion IsSpelled (groups octets)
unfolding groups
spelled_groups [] bytes = tt
spelled_groups (b ∷ bs) bytes =
    let others = spelled_groups bs (λ i. bytes (suc i)) in
    elim (cases_lt b 128) [
      | inl low ↦ subst (AllByRecursion IsSpelled) (sym (groups-low b bs low)) (record { digits = []; last = b; is = refl; below = tt }, others)
      | inr high ↦ subst (AllByRecursion IsSpelled) (sym (groups-high b bs high)) (onto_first b (groups bs) high (bytes 0) others)
    ]

joined_first : (b : ℕ) (gs : List (List ℕ)) → flat_map (λ g. g) (in_first b gs) ≡ b ∷ flat_map (λ g. g) gs
joined_first b [] = refl
joined_first b (g ∷ gs) = refl

joined : (octets : List ℕ) → flat_map (λ g. g) (groups octets) ≡ octets
unfolding groups
joined [] = refl
joined (b ∷ bs) = elim (cases_lt b 128) [
  | inl low ↦ ap (flat_map (λ g. g)) (groups-low b bs low) ∙ ap (λ t. b ∷ t) (joined bs)
  | inr high ↦ ap (flat_map (λ g. g)) (groups-high b bs high) ∙ joined_first b (groups bs) ∙ ap (λ t. b ∷ t) (joined bs)
]

-- ---- a group that is a number is the octets of that number

both : (a b : Bool) → (a && b) ≡ true → (a ≡ true) × (b ≡ true)
both true b e = (refl, e)
both false b e = absurd (cc)

positive_first : (ds : List ℕ) (d : ℕ) → not (eqb (get_or (spelled ds d) 0 0) 0x80) ≡ true → 0 < length ds → 0 < get_or ds 0 0
positive_first [] d first some = absurd (omega arith)
positive_first (b ∷ ds) d first some = elim (cases_lt 0 b) [
  | inl positive ↦ positive
  | inr none ↦ let zero : 0x80 + b ≡ 0x80 = omega arith in absurd (let no : ⊥ = (grind (arith, nat_tests)) in no)
]

number_octets-spelled : (ds : List ℕ) (d : ℕ) → AllBelowBase 128 ds → is_number (spelled ds d) ≡ true
    → (number_octets (base_128 (spelled ds d)) ≡ spelled ds d) × (base_128 (spelled ds d) < 2 ^ 64)
number_octets-spelled ds d below is =
    let g = spelled ds d in
    let tests : (ltb (get_or g (length g - 1) 0) 0x80 ≡ true) × ((not (eqb (get_or g 0 0) 0x80) && ltb (base_128 g) (2 ^ 64)) ≡ true) = both _ _ is in
    let others : (not (eqb (get_or g 0 0) 0x80) ≡ true) × (ltb (base_128 g) (2 ^ 64) ≡ true) = both _ _ tests.1 in
    let last : d < 128 = ltb-true d 128 (sym (ap (λ x. ltb x 128) (last-spelled ds d)) ∙ tests.0) in
    let n = number_from_digits 128 ds in
    let front : (n * 128 + d) / 128 ≡ n = omega arith in
    let back : (n * 128 + d) % 128 ≡ d = omega arith in
    let same = digits_again ds below (positive_first ds d others.0) in
    (ap number_octets (base_128-spelled ds d below last) ∙ rw (front, back) (ap (λ t. map (λ d. 0x80 + d) t ++ d ∷ []) same), ltb-true (base_128 g) (2 ^ 64) others.1)

record IsAgain (gs : List (List ℕ)) : Type 0 where
  octets : flat_map number_octets (map base_128 gs) ≡ flat_map (λ g. g) gs
  fit : All (λ n. n < 2 ^ 64) (map base_128 gs)

groups_again : (gs : List (List ℕ)) → AllByRecursion IsSpelled gs → list_all is_number gs ≡ true → IsAgain gs
groups_again [] all are = record { octets = refl; fit = All-nil (λ n. n < 2 ^ 64) }
groups_again (g ∷ gs) all are =
    let tests = both _ _ are in
    let first = all.0 in
    let one = number_octets-spelled first.digits first.last first.below (sym (ap is_number first.is) ∙ tests.0) in
    let others = groups_again gs all.1 tests.1 in
    let whole : number_octets (base_128 g) ≡ g = ap (λ g. number_octets (base_128 g)) first.is ∙ one.0 ∙ sym first.is in
    let small : base_128 g < 2 ^ 64 = subst (λ g. base_128 g < 2 ^ 64) (sym first.is) one.1 in
    record {
      octets = ap (λ o. o ++ flat_map number_octets (map base_128 gs)) whole ∙ ap (λ o. g ++ o) others.octets;
      fit = All-cons (λ n. n < 2 ^ 64) (base_128 g) (map base_128 gs) small others.fit;
    }

-- ---- the arcs of numbers

are_components : (n : ℕ) (ns : List ℕ) → All (λ n. n < 2 ^ 64) (n ∷ ns) → AreArcs (components (n ∷ ns))
are_components n ns fit =
    let small : n < 2 ^ 64 = All-head (λ n. n < 2 ^ 64) n ns fit in
    let top = min 2 (n / 40) in
    let second : n - 40 * top ≤ most_second top = elim (cases_lt (n / 40) 2) [
      | inl low ↦
          let is : min 2 (n / 40) ≡ n / 40 = omega arith in
          rw (is, lt-ltb (n / 40) 2 low) (omega arith)
      | inr high ↦
          let is : min 2 (n / 40) ≡ 2 = omega arith in
          rw is (omega arith)
    ] in
    (omega arith, second, All-tail (λ n. n < 2 ^ 64) n ns fit)

numbers-components : (n : ℕ) (ns : List ℕ) → numbers (components (n ∷ ns)) ≡ n ∷ ns
numbers-components n ns = let whole : 40 * min 2 (n / 40) + (n - 40 * min 2 (n / 40)) ≡ n = omega arith in ap (λ m. m ∷ ns) whole

text_of_numbers : (octets ns : List ℕ) → 0 < length octets → octets ≡ flat_map number_octets ns → All (λ n. n < 2 ^ 64) ns
    → IsDottedText (dotted (components ns)) octets
text_of_numbers octets [] some is fit = absurd (omega (arith, ap length is))
text_of_numbers octets (n ∷ ns) some is fit = record {
  arcs = components (n ∷ ns);
  are_arcs = are_components n ns fit;
  text_is = refl;
  octets_are = is ∙ ap (flat_map number_octets) (sym (numbers-components n ns));
}

-- octets in dotted form are those that their text names
pub IsDottedText-dotted : (octets : List ℕ) → IsBytes octets → is_dotted octets ≡ true → IsDottedText (oid_text octets) octets
IsDottedText-dotted octets bytes is =
    let tests : (not (eqb (length octets) 0) ≡ true) × (are_numbers octets ≡ true) = both _ _ is in
    let again = groups_again (groups octets) (spelled_groups octets bytes) tests.1 in
    let some : 0 < length octets = (let t = tests.0 in grind (arith, nat_tests)) in
    rw (oid_text-dotted octets is) (text_of_numbers octets (map base_128 (groups octets)) some (sym (again.octets ∙ joined octets)) again.fit)
