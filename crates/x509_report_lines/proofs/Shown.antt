-- What is shown of a text holds no control.
use Rattle.std.proofs.Common.{◌≡◌, ℕ, ◌+◌, ◌/◌, ◌%◌, ◌≤◌, Bool, true, false, cond, List, [], ◌∷◌, ◌++◌, refl, arith, zero, suc, codes, nat_lt, ◌==◌}
use Rattle.std.proofs.lemmas.Bool.Decides.{nat_tests}
use Rattle.std.specs.Fmt.{digits, digits_onto, digit_glyph}
use Rattle.std.specs.Str.{chars}
use lib.Utf8.{encode}
use Rattle.x509_report_lines.specs.Escape.{is_hidden, escape_text, escaped_char, escaped_chars, escaped, NoControls}

together : (xs ys : List ℕ) → NoControls xs → NoControls ys → NoControls (xs ++ ys)
together [] ys h k = k
together (x ∷ xs) ys h k = (h.0, together xs ys h.1 k)

glyph_cases : (b : Bool) (d : ℕ) → 32 ≤ cond b (48 + d) (87 + d)
glyph_cases true d = omega arith
glyph_cases false d = omega arith

onto_cases : (b : Bool) (xs ys : List ℕ) → NoControls xs → NoControls ys → NoControls (cond b xs ys)
onto_cases true xs ys h k = h
onto_cases false xs ys h k = k

onto : (k base n : ℕ) (acc : List ℕ) → NoControls acc → NoControls (digits_onto k base false n acc)
onto zero base n acc h = h
onto (suc k) base n acc h =
    let here : NoControls (digit_glyph false (n % base) ∷ acc) = (glyph_cases (nat_lt (n % base) 10) (n % base), h) in
    onto_cases (n / base == 0) (digit_glyph false (n % base) ∷ acc) (digits_onto k base false (n / base) (digit_glyph false (n % base) ∷ acc)) here (onto k base (n / base) (digit_glyph false (n % base) ∷ acc) here)

number_shown : (n : ℕ) → NoControls (digits 16 false n)
unfolding digits
number_shown n = onto 64 16 n [] tt

escape_shown : (c : ℕ) → NoControls (escape_text c)
escape_shown c = together (codes "\\u{" ++ digits 16 false c) (codes "}")
    (together (codes "\\u{") (digits 16 false c) (omega arith, (omega arith, (omega arith, tt))) (number_shown c)) (omega arith, tt)

octets : (x y z : Bool) (c a b d e f g h i j : ℕ) → 32 ≤ c → NoControls (cond x (c ∷ []) (cond y ((192 + a) ∷ (128 + b) ∷ []) (cond z ((224 + d) ∷ (128 + e) ∷ (128 + f) ∷ []) ((240 + g) ∷ (128 + h) ∷ (128 + i) ∷ (128 + j) ∷ []))))
octets true y z c a b d e f g h i j k = (k, tt)
octets false true z c a b d e f g h i j k = (omega arith, (omega arith, tt))
octets false false true c a b d e f g h i j k = (omega arith, (omega arith, (omega arith, tt)))
octets false false false c a b d e f g h i j k = (omega arith, (omega arith, (omega arith, (omega arith, tt))))

encode_shown : (c : ℕ) → 32 ≤ c → NoControls (encode c)
unfolding encode
encode_shown c h = octets (nat_lt c 128) (nat_lt c 2048) (nat_lt c 65536) c (c / 64) (c % 64) (c / 4096) (c / 64 % 64) (c % 64) (c / 262144) (c / 4096 % 64) (c / 64 % 64) (c % 64) h

not_hidden : (c : ℕ) → is_hidden c ≡ false → 32 ≤ c
not_hidden c e = grind (arith, nat_tests)

hidden_cases : (b : Bool) (c : ℕ) → (b ≡ false → 32 ≤ c) → NoControls (cond b (escape_text c) (encode c))
hidden_cases true c k = escape_shown c
hidden_cases false c k = encode_shown c (k refl)

char_shown : (c : ℕ) → NoControls (escaped_char c)
unfolding escaped_char
char_shown c = hidden_cases (is_hidden c) c (not_hidden c)

all_shown : (cs : List ℕ) → NoControls (escaped_chars cs)
all_shown [] = tt
all_shown (c ∷ cs) = together (escaped_char c) (escaped_chars cs) (char_shown c) (all_shown cs)

-- whatever a text holds, what is shown of it is on one line and moves no cursor
pub escaped_shown : (text : List ℕ) → NoControls (escaped text)
escaped_shown text = all_shown (chars text)
