-- No text in a page is markup.
use Rattle.std.proofs.Common.{◌≡◌, ℕ, ◌+◌, ◌/◌, ◌%◌, ◌<◌, ◌≤◌, Bool, true, false, cond, List, [], ◌∷◌, ◌++◌, refl, arith, zero, suc, codes, nat_lt, ◌==◌}
use Rattle.std.proofs.lemmas.Bool.Decides.{nat_tests}
use Rattle.std.specs.Fmt.{decimal, digits, digits_onto, digit_glyph}
use Rattle.std.specs.Prelude.{flat_map}
use Rattle.std.specs.Str.{chars}
use lib.Utf8.{encode}
use Rattle.x509_der.specs.Hex.{hex_pair, hex_text}
use Rattle.x509_report_lines.specs.Escape.{escaped}
use Rattle.x509_report_lines.specs.PageEscape.{IsPlain, IsPlainOctet, html, html_char, html_chars, is_markup, reference}

pub together : (xs ys : List ℕ) → IsPlain xs → IsPlain ys → IsPlain (xs ++ ys)
together [] ys h k = k
together (x ∷ xs) ys h k = (h.0, together xs ys h.1 k)

high : (b : ℕ) → 63 ≤ b → IsPlainOctet b
high b h = (omega arith, omega arith, omega arith, omega arith, omega arith)

digit : (b : ℕ) → 48 ≤ b → b ≤ 57 → IsPlainOctet b
digit b h k = (omega arith, omega arith, omega arith, omega arith, omega arith)

-- ---- numbers

glyph : (b : Bool) (d : ℕ) → (b ≡ true → d < 10) → IsPlainOctet (cond b (48 + d) (87 + d))
glyph true d k = let less : d < 10 = k refl in digit (48 + d) (omega arith) (omega arith)
glyph false d k = high (87 + d) (omega arith)

below : (d : ℕ) → nat_lt d 10 ≡ true → d < 10
below d e = grind (arith, nat_tests, e)

either : (b : Bool) (xs ys : List ℕ) → IsPlain xs → IsPlain ys → IsPlain (cond b xs ys)
either true xs ys h k = h
either false xs ys h k = k

onto : (k base n : ℕ) (acc : List ℕ) → IsPlain acc → IsPlain (digits_onto k base false n acc)
onto zero base n acc h = h
onto (suc k) base n acc h =
    let here : IsPlain (digit_glyph false (n % base) ∷ acc) = (glyph (nat_lt (n % base) 10) (n % base) (below (n % base)), h) in
    either (n / base == 0) (digit_glyph false (n % base) ∷ acc) (digits_onto k base false (n / base) (digit_glyph false (n % base) ∷ acc)) here (onto k base (n / base) (digit_glyph false (n % base) ∷ acc) here)

pub number_plain : (n : ℕ) → IsPlain (decimal n)
unfolding digits
number_plain n = onto 64 10 n [] tt

-- ---- texts

reference_plain : (c : ℕ) → IsPlain (reference c)
reference_plain c = together (codes "&#") (decimal c ++ codes ";")
    ((omega arith, omega arith, omega arith, omega arith, omega arith), ((omega arith, omega arith, omega arith, omega arith, omega arith), tt))
    (together (decimal c) (codes ";") (number_plain c) ((omega arith, omega arith, omega arith, omega arith, omega arith), tt))

octets : (x y z : Bool) (c a b d e f g h i j : ℕ) → IsPlainOctet c → IsPlain (cond x (c ∷ []) (cond y ((192 + a) ∷ (128 + b) ∷ []) (cond z ((224 + d) ∷ (128 + e) ∷ (128 + f) ∷ []) ((240 + g) ∷ (128 + h) ∷ (128 + i) ∷ (128 + j) ∷ []))))
octets true y z c a b d e f g h i j k = (k, tt)
octets false true z c a b d e f g h i j k = (high (192 + a) (omega arith), (high (128 + b) (omega arith), tt))
octets false false true c a b d e f g h i j k = (high (224 + d) (omega arith), (high (128 + e) (omega arith), (high (128 + f) (omega arith), tt)))
octets false false false c a b d e f g h i j k = (high (240 + g) (omega arith), (high (128 + h) (omega arith), (high (128 + i) (omega arith), (high (128 + j) (omega arith), tt))))

encode_plain : (c : ℕ) → IsPlainOctet c → IsPlain (encode c)
unfolding encode
encode_plain c h = octets (nat_lt c 128) (nat_lt c 2048) (nat_lt c 65536) c (c / 64) (c % 64) (c / 4096) (c / 64 % 64) (c % 64) (c / 262144) (c / 4096 % 64) (c / 64 % 64) (c % 64) h

no_markup : (c : ℕ) → is_markup c ≡ false → IsPlainOctet c
no_markup c e = (grind (arith, nat_tests, e), grind (arith, nat_tests, e), grind (arith, nat_tests, e), grind (arith, nat_tests, e), grind (arith, nat_tests, e))

char_cases : (b : Bool) (c : ℕ) → (b ≡ false → IsPlainOctet c) → IsPlain (cond b (reference c) (encode c))
char_cases true c k = reference_plain c
char_cases false c k = encode_plain c (k refl)

char_plain : (c : ℕ) → IsPlain (html_char c)
unfolding html_char
char_plain c = char_cases (is_markup c) c (no_markup c)

all_plain : (cs : List ℕ) → IsPlain (html_chars cs)
all_plain [] = tt
all_plain (c ∷ cs) = together (html_char c) (html_chars cs) (char_plain c) (all_plain cs)

-- whatever a text holds, what a page has of it ends no element and no attribute, and begins none
pub html_plain : (text : List ℕ) → IsPlain (html text)
html_plain text = all_plain (chars (escaped text))

-- ---- octets in hex

pair_plain : (b : ℕ) → IsPlain (hex_pair b)
pair_plain b = (glyph (nat_lt (b / 16) 10) (b / 16) (below (b / 16)), (glyph (nat_lt (b % 16) 10) (b % 16) (below (b % 16)), tt))

pairs_plain : (bs : List ℕ) → IsPlain (flat_map (λ b. [] ++ hex_pair b) bs)
pairs_plain [] = tt
pairs_plain (b ∷ bs) = together (hex_pair b) (flat_map (λ b. [] ++ hex_pair b) bs) (pair_plain b) (pairs_plain bs)

pub hex_plain : (bs : List ℕ) → IsPlain (hex_text [] bs)
hex_plain [] = tt
hex_plain (b ∷ bs) = together (hex_pair b) (flat_map (λ b. [] ++ hex_pair b) bs) (pair_plain b) (pairs_plain bs)
