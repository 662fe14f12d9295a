-- Numbers in decimal digits, and what is parsed of them.
use Rattle.std.proofs.Common.{◌≡◌, ℕ, ◌^◌, ◌<◌, ◌≤◌, Bool, true, false, not, cond, ◌&&◌, List, [], ◌∷◌, length, get_or, Result, Ok, Err, Some, None, eqb, ltb, refl, sym, ap, ◌∙◌, arith, rules, inl, inr, decimal}
use Rattle.std.proofs.lemmas.Bool.{cases_lt, lt-ltb}
use Rattle.std.proofs.lemmas.Bool.Decides.{nat_tests}
use Rattle.std.proofs.lemmas.Fmt.{decimal-digits_value, digits_decimal, digits_value-decimal, decimal_nonempty, first_decimal, decimal_digit}
use Rattle.std.proofs.lemmas.List.Elements.{All-from_get_or}
use Rattle.std.proofs.lemmas.Result.{OkIff-at_ok, OkIff-at_err}
use Rattle.std.proofs.lemmas.Str.Parse.{IsNumeralModel, IsDigitsTest, numerals_by_value, parse_digits, not_in_digits}
use Rattle.std.specs.Char.{is_ascii_digit}
use Rattle.std.specs.List.{All, list_all}
use borrow.Author.Tests.{ne_eqb}
use Rattle.std.specs.Str.Parse.{ParsesUnsigned, digits_value}
use Rattle.x509_names.specs.declared.parse_error.ParseOidError.{ParseOidError}
use Rattle.x509_names.specs.DottedRefusals.{is_numeral, has_leading_zero, arc_refusal}

abbrev AreDigits : List ℕ → Type 0
AreDigits text = list_all is_ascii_digit text ≡ true

tells : IsDigitsTest AreDigits
tells = search rules

own : IsNumeralModel AreDigits (digits_value 10)
own = numerals_by_value AreDigits tells

both : (a b : Bool) → (a && b) ≡ true → (a ≡ true) × (b ≡ true)
both true b e = (refl, e)
both false b e = absurd (cc)

some_digits : (text : List ℕ) → is_numeral text ≡ true → (0 < length text) × AreDigits text
some_digits [] h = absurd (cc)
some_digits (c ∷ text) h = (omega arith, (both _ _ h).1)

-- a number without a leading zero is what `decimal` writes of its value
numeral-decimal : (text : List ℕ) → is_numeral text ≡ true → has_leading_zero text ≡ false → digits_value 10 text < 2 ^ 64
    → decimal (digits_value 10 text) ≡ text
numeral-decimal text is bare small =
    let digits = some_digits text is in
    let alone : get_or text 0 0 ≡ 48 → length text ≡ 1 = λ e. let some = digits.0 in grind (arith, nat_tests) in
    decimal-digits_value own text digits.1 digits.0 alone small

-- a number that was parsed
pub parsed_arc : {E : Type 0} (text : List ℕ) (r : Result ℕ E) (n : ℕ) → ParsesUnsigned 64 10 text r → r ≡ Ok n → is_numeral text ≡ true
    → has_leading_zero text ≡ false → text ≡ decimal n
parsed_arc text r n parses ok is bare =
    let digits = some_digits text is in
    let got = OkIff-at_ok r _ _ n (parse_digits own 64 text r parses digits.1) ok in
    sym (ap decimal got.1 ∙ numeral-decimal text is bare got.0.1)

-- a number that was not
pub unparsed_arc : {E : Type 0} (text : List ℕ) (r : Result ℕ E) (e : E) → ParsesUnsigned 64 10 text r → r ≡ Err e → is_numeral text ≡ true
    → 2 ^ 64 ≤ digits_value 10 text
unparsed_arc text r e parses err is =
    let digits = some_digits text is in
    let great = OkIff-at_err r _ _ e (parse_digits own 64 text r parses digits.1) err in
    elim (cases_lt (digits_value 10 text) (2 ^ 64)) [
      | inl small ↦ absurd (great (digits.0, small))
      | inr large ↦ large
    ]

pub refused_above : (most : ℕ) (above : ParseOidError) (text : List ℕ) → is_numeral text ≡ true → has_leading_zero text ≡ false
    → most < digits_value 10 text → arc_refusal most above text ≡ Some above
refused_above most above text is bare great = rw (is, bare, lt-ltb most (digits_value 10 text) great) refl

and_false : (a : Bool) → (a && false) ≡ false
and_false true = refl
and_false false = refl

is_numeral-decimal : (n : ℕ) → n < 2 ^ 64 → is_numeral (decimal n) ≡ true
is_numeral-decimal n small =
    let digits : AreDigits (decimal n) = digits_decimal own n small in
    let some = decimal_nonempty n small in
    let there : eqb (length (decimal n)) 0 ≡ false = grind (arith, nat_tests) in
    rw (there, digits) refl

has_leading_zero-decimal : (n : ℕ) → n < 2 ^ 64 → has_leading_zero (decimal n) ≡ false
has_leading_zero-decimal n small = elim (cases_lt 0 n) [
  | inl some ↦
      let first = first_decimal n some small in
      let other : eqb (get_or (decimal n) 0 0) 48 ≡ false = grind (arith, nat_tests) in
      rw other (and_false _)
  | inr none ↦
      let zero : n ≡ 0 = omega arith in
      rw (zero, decimal_digit 0 (omega arith)) refl
]

pub value-decimal : (n : ℕ) → n < 2 ^ 64 → digits_value 10 (decimal n) ≡ n
value-decimal n small = digits_value-decimal own n small

-- a number that is no greater is no refusal
pub arc_refusal-decimal : (most : ℕ) (above : ParseOidError) (n : ℕ) → n ≤ most → n < 2 ^ 64 → arc_refusal most above (decimal n) ≡ None
arc_refusal-decimal most above n le small =
    let fits : ltb most n ≡ false = grind (arith, nat_tests) in
    rw (is_numeral-decimal n small, has_leading_zero-decimal n small, value-decimal n small, fits) refl

-- no digit is a dot
pub no_dot : (n : ℕ) → n < 2 ^ 64 → All (λ c. eqb c 46 ≡ false) (decimal n)
no_dot n small =
    All-from_get_or (λ c. eqb c 46 ≡ false) (decimal n) 0 (λ i below.
    let other = not_in_digits own (decimal n) 46 (digits_decimal own n small) (λ range. absurd (omega (arith, range.0))) i below in
    ne_eqb (get_or (decimal n) i 0) 46 other)

-- what is not refused is a number, and no greater
not_refused_tests : (n z g : Bool) (e f h : ParseOidError) → cond (not n) (Some e) (cond z (Some f) (cond g (Some h) None)) ≡ None → (n ≡ true) × (z ≡ false) × (g ≡ false)
not_refused_tests true false false e f h none = (refl, refl, refl)
not_refused_tests true false true e f h none = absurd (cc)
not_refused_tests true true g e f h none = absurd (cc)
not_refused_tests false z g e f h none = absurd (cc)

pub unrefused_arc : (most : ℕ) (above : ParseOidError) (text : List ℕ) → most < 2 ^ 64 → arc_refusal most above text ≡ None
    → (text ≡ decimal (digits_value 10 text)) × (digits_value 10 text ≤ most)
unrefused_arc most above text fits none =
    let tests : (is_numeral text ≡ true) × (has_leading_zero text ≡ false) × (ltb most (digits_value 10 text) ≡ false) = not_refused_tests _ _ _ _ _ _ none in
    let small : digits_value 10 text ≤ most = (let t = tests.2 in grind (arith, nat_tests)) in
    (sym (numeral-decimal text tests.0 tests.1 (omega arith)), small)
