-- The text of units, a character at a time.
use Rattle.std.proofs.Common.{◌≡◌, ℕ, ◌+◌, ◌%◌, ◌<◌, ◌≤◌, ◌==◌, ◌&&◌, Bool, true, false, not, List, [], ◌∷◌, ◌++◌, length, map, Option, Some, None, is_some, unwrap_or, refl, ap, ◌∙◌, arith}
use Rattle.std.proofs.lemmas.Bool.Decides.{nat_tests}
use Rattle.std.proofs.lemmas.Str.{utf16_chars_lone}
use Rattle.std.specs.Prelude.{encode_utf8, encode_utf8_all, if◌then◌else◌}
use Rattle.std.proofs.Common.{inl, inr}
use Rattle.std.specs.Char.{InScalarRange, OutOfScalarRange}
use Rattle.std.specs.Char.Utf16.{utf16_chars, lone_unit_char, is_high_surrogate, is_low_surrogate}
use Rattle.std.specs.List.{list_any}
use Rattle.std.specs.Option.{option_map}
use Rattle.x509_names.specs.NameTexts.{units, utf16_text, pair_char}

-- the text of what was found, where no octet was left
abbrev text_of : Bool → List (Option ℕ) → Option (List ℕ)
text_of whole found =
    if whole && not (list_any (λ o. not (is_some o)) found) then Some (encode_utf8_all (map (λ o. unwrap_or o 0xFFFD) found)) else None

behind_it : (c : ℕ) (fine : Bool) (text : List ℕ) → (if fine then Some (encode_utf8 c ++ text) else None) ≡ option_map (λ t. encode_utf8 c ++ t) (if fine then Some text else None)
behind_it c true text = refl
behind_it c false text = refl

-- units that spell a character and then what the ones behind it spell
pub next_char : (octets behind : List ℕ) (c : ℕ) → utf16_chars (units octets) ≡ Some c ∷ utf16_chars (units behind) → length octets % 2 ≡ length behind % 2
    → utf16_text octets ≡ option_map (λ text. encode_utf8 c ++ text) (utf16_text behind)
next_char octets behind c spelt even =
    ap (λ found. text_of (length octets % 2 == 0) found) spelt
    ∙ ap (λ n. text_of (n == 0) (Some c ∷ utf16_chars (units behind))) even
    ∙ behind_it c _ _

none_there : (whole : Bool) (found : List (Option ℕ)) → text_of whole (None ∷ found) ≡ None
none_there true found = refl
none_there false found = refl

-- units that spell no character
pub no_char : (octets : List ℕ) (found : List (Option ℕ)) → utf16_chars (units octets) ≡ None ∷ found → utf16_text octets ≡ None
no_char octets found spelt = ap (text_of (length octets % 2 == 0)) spelt ∙ none_there _ found

-- fewer than two octets
pub no_unit : (octets : List ℕ) → length octets < 2 → utf16_text octets ≡ (if length octets == 0 then Some [] else None)
unfolding utf16_chars
no_unit [] few = refl
no_unit (x ∷ []) few = refl
no_unit (x ∷ y ∷ octets) few = absurd (omega arith)

no_units : (octets : List ℕ) → length octets < 2 → units octets ≡ []
no_units [] few = refl
no_units (x ∷ []) few = refl
no_units (x ∷ y ∷ octets) few = absurd (omega arith)

-- where there are octets, no text is the answer of no character
pub no_text : (octets behind : List ℕ) → length octets ≡ length behind + 2 → utf16_text octets ≡ None → utf16_text octets ≡ (if length octets == 0 then Some [] else None)
no_text octets behind more none =
    let some : (length octets == 0) ≡ false = grind (arith, nat_tests) in
    rw some none

-- ---- one unit

in_no_pair : (unit next : ℕ) → InScalarRange unit → (0xD800 ≤ unit) × (unit < 0xDC00) × (0xDC00 ≤ next) × (next < 0xE000) → ⊥
in_no_pair unit next (inl low) pair = absurd (omega arith)
in_no_pair unit next (inr high) pair = absurd (omega arith)

alone : (unit : ℕ) → InScalarRange unit → lone_unit_char unit ≡ Some unit
alone unit (inl low) = grind (arith, nat_tests)
alone unit (inr high) = grind (arith, nat_tests)

surrogate : (unit : ℕ) → unit < 0x10000 → OutOfScalarRange unit → lone_unit_char unit ≡ None
surrogate unit fits out = grind (arith, nat_tests)

-- a unit that is no surrogate
pub lone_char : (octets behind : List ℕ) (unit : ℕ) → units octets ≡ unit ∷ units behind → length octets ≡ length behind + 2 → InScalarRange unit
    → utf16_text octets ≡ option_map (λ text. encode_utf8 unit ++ text) (utf16_text behind)
lone_char octets behind unit cut more range =
    next_char octets behind unit
    (ap utf16_chars cut ∙ utf16_chars_lone unit (units behind) (in_no_pair unit _ range) ∙ ap (λ o. o ∷ utf16_chars (units behind)) (alone unit range))
    (omega arith)

-- a surrogate as the last unit
pub last_surrogate : (octets behind : List ℕ) (unit : ℕ) → units octets ≡ unit ∷ units behind → unit < 0x10000 → OutOfScalarRange unit → length behind < 2
    → utf16_text octets ≡ None
unfolding utf16_chars
last_surrogate octets behind unit cut fits out few =
    no_char octets []
    (ap utf16_chars (cut ∙ ap (λ us. unit ∷ us) (no_units behind few)) ∙ ap (λ o. o ∷ []) (surrogate unit fits out))

-- ---- two units

pair_found : (is : Bool) (c d : ℕ) (found lone : List (Option ℕ)) → (if is then Some c else None) ≡ Some d → (if is then Some c ∷ found else lone) ≡ Some d ∷ found
pair_found true c d found lone e = ap (λ o. o ∷ found) e
pair_found false c d found lone e = absurd (cc)

pair_missed : (is : Bool) (c : ℕ) (found lone : List (Option ℕ)) → (if is then Some c else None) ≡ None → (if is then Some c ∷ found else lone) ≡ lone
pair_missed true c found lone e = absurd (cc)
pair_missed false c found lone e = refl

chars_paired : (high low d : ℕ) (us : List ℕ) → pair_char high low ≡ Some d → utf16_chars (high ∷ low ∷ us) ≡ Some d ∷ utf16_chars us
unfolding utf16_chars
chars_paired high low d us e = pair_found (is_high_surrogate high && is_low_surrogate low) _ d _ _ e

chars_apart : (high low : ℕ) (us : List ℕ) → pair_char high low ≡ None → utf16_chars (high ∷ low ∷ us) ≡ lone_unit_char high ∷ utf16_chars (low ∷ us)
unfolding utf16_chars
chars_apart high low us e = pair_missed (is_high_surrogate high && is_low_surrogate low) _ _ _ e

-- two surrogates that are a pair
pub pair_there : (octets after behind : List ℕ) (high low c : ℕ) → units octets ≡ high ∷ units after → units after ≡ low ∷ units behind
    → length octets ≡ length after + 2 → length after ≡ length behind + 2 → pair_char high low ≡ Some c
    → utf16_text octets ≡ option_map (λ text. encode_utf8 c ++ text) (utf16_text behind)
pair_there octets after behind high low c first second more and_more pair =
    next_char octets behind c (ap utf16_chars (first ∙ ap (λ us. high ∷ us) second) ∙ chars_paired high low c (units behind) pair) (omega arith)

-- two units that are none, the first a surrogate
pub no_pair_there : (octets after behind : List ℕ) (high low : ℕ) → units octets ≡ high ∷ units after → units after ≡ low ∷ units behind
    → high < 0x10000 → OutOfScalarRange high → pair_char high low ≡ None → utf16_text octets ≡ None
no_pair_there octets after behind high low first second fits out apart =
    no_char octets (utf16_chars (low ∷ units behind))
    (ap utf16_chars (first ∙ ap (λ us. high ∷ us) second) ∙ chars_apart high low (units behind) apart
    ∙ ap (λ o. o ∷ utf16_chars (low ∷ units behind)) (surrogate high fits out))
