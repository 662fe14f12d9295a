-- Characters of four octets, read one behind the other.
use Rattle.std.proofs.Common.{◌≡◌, ℕ, ◌+◌, ◌-◌, ◌*◌, ◌<◌, ◌≤◌, Bool, true, false, List, [], ◌∷◌, ◌++◌, length, get_or, take, drop, Option, Some, None, refl, sym, ap, ◌∙◌, append_assoc, append-nil, arith, if◌then◌else◌}
use Rattle.std.specs.Prelude.{encode_utf8}
use Rattle.std.specs.Option.{option_map}
use Rattle.std.proofs.lemmas.List.{take_all}
use Rattle.x509_requests.specs.PasswordTexts.{is_character, put_before, utf32_text}

abbrev pub first_number : List ℕ → ℕ
first_number rest = ((get_or rest 0 0 * 256 + get_or rest 1 0) * 256 + get_or rest 2 0) * 256 + get_or rest 3 0

abbrev pub behind_text : List ℕ → Option (List ℕ) → Option (List ℕ)
behind_text text more = option_map (λ m. text ++ m) more

first_then : (rest : List ℕ) → 4 ≤ length rest → utf32_text rest ≡ put_before (first_number rest) (utf32_text (take (length rest - 4) (drop 4 rest)))
unfolding utf32_text
first_then [] le = absurd (omega arith)
first_then (a ∷ []) le = absurd (omega arith)
first_then (a ∷ b ∷ []) le = absurd (omega arith)
first_then (a ∷ b ∷ c ∷ []) le = absurd (omega arith)
first_then (a ∷ b ∷ c ∷ d ∷ octets) le =
    let n : ℕ = ((a * 256 + b) * 256 + c) * 256 + d in
    ap (λ xs. put_before n (utf32_text xs)) (sym (take_all (length (a ∷ b ∷ c ∷ d ∷ octets) - 4) octets (omega arith)))

put_no : (b : Bool) (n : ℕ) (o : Option (List ℕ)) → b ≡ false → (if b then option_map (λ more. encode_utf8 n ++ more) o else None) ≡ None
put_no true n o e = absurd cc
put_no false n o e = refl

put_yes : (b : Bool) (n : ℕ) (o : Option (List ℕ)) → b ≡ true → (if b then option_map (λ more. encode_utf8 n ++ more) o else None) ≡ option_map (λ more. encode_utf8 n ++ more) o
put_yes true n o e = refl
put_yes false n o e = absurd cc

pub no_character : (text rest : List ℕ) (n : ℕ) (all : Option (List ℕ)) → 4 ≤ length rest → n ≡ first_number rest → is_character n ≡ false → behind_text text (utf32_text rest) ≡ all → all ≡ None
no_character text rest n all le is none so_far =
    sym so_far ∙ ap (behind_text text) (first_then rest le ∙ put_no (is_character (first_number rest)) (first_number rest) (utf32_text (take (length rest - 4) (drop 4 rest))) (ap is_character (sym is) ∙ none))

push_behind : (text more : List ℕ) (o : Option (List ℕ)) → behind_text (text ++ more) o ≡ behind_text text (option_map (λ m. more ++ m) o)
push_behind text more None = refl
push_behind text more (Some m) = ap (λ (x : List ℕ). Some x) (append_assoc text more m)

pub one_character : (text now rest : List ℕ) (n : ℕ) (all : Option (List ℕ)) → 4 ≤ length rest → n ≡ first_number rest → is_character n ≡ true → now ≡ text ++ encode_utf8 n → behind_text text (utf32_text rest) ≡ all
    → behind_text now (utf32_text (take (length rest - 4) (drop 4 rest))) ≡ all
one_character text now rest n all le is some grown so_far =
    let more : Option (List ℕ) = utf32_text (take (length rest - 4) (drop 4 rest)) in
    ap (λ t. behind_text t more) (grown ∙ ap (λ m. text ++ encode_utf8 m) is)
    ∙ (push_behind text (encode_utf8 (first_number rest)) more
    ∙ (ap (behind_text text) (sym (first_then rest le ∙ put_yes (is_character (first_number rest)) (first_number rest) more (ap is_character (sym is) ∙ some)))
    ∙ so_far))

pub octets_left : (text rest : List ℕ) (all : Option (List ℕ)) → length rest < 4 → 0 < length rest → behind_text text (utf32_text rest) ≡ all → all ≡ None
unfolding utf32_text
octets_left text [] all lt some so_far = absurd (omega arith)
octets_left text (a ∷ []) all lt some so_far = sym so_far
octets_left text (a ∷ b ∷ []) all lt some so_far = sym so_far
octets_left text (a ∷ b ∷ c ∷ []) all lt some so_far = sym so_far
octets_left text (a ∷ b ∷ c ∷ d ∷ octets) all lt some so_far = absurd (omega arith)

pub none_left : (text rest : List ℕ) (all : Option (List ℕ)) → length rest ≡ 0 → behind_text text (utf32_text rest) ≡ all → all ≡ Some text
unfolding utf32_text
none_left text [] all none so_far = sym so_far ∙ ap (λ (x : List ℕ). Some x) (append-nil text)
none_left text (a ∷ octets) all none so_far = absurd (omega arith)
