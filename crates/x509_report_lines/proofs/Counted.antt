-- How many lines a text has goes by its tokens alone: no name adds one.
use Rattle.std.proofs.Common.{◌≡◌, ℕ, ◌+◌, ◌*◌, ◌%◌, ◌≤◌, Bool, true, false, ◌&&◌, cond, List, [], ◌∷◌, ◌++◌, length, min, nat_lt, refl, arith, zero, suc, codes, ◌==◌}
use Rattle.std.proofs.lemmas.Bool.Decides.{nat_tests}
use Rattle.std.specs.Prelude.{fold, replicate}
use Rattle.std.specs.List.{list_all}
use Rattle.json.specs.Token.{Token, begin_object, end_object, begin_array, end_array, key, string, number, boolean, null, bad}
use Rattle.x509_report_lines.specs.Escape.{NoControls, escaped}
use Rattle.x509_report_lines.specs.Lines.{Page, newlines, ends_line, lines_in, indent, lead, opening, step, truth_text, text_of, blank, is_hex_digit, is_long_hex, break_before, broken, breaks, hex_lead, with_hex, with_value}
use Rattle.x509_report_lines.proofs.Shown.{escaped_shown}

joined : (xs ys : List ℕ) → newlines (xs ++ ys) ≡ newlines xs + newlines ys
joined [] ys = omega arith
joined (x ∷ xs) ys = omega (arith, joined xs ys)

one : (b : ℕ) → 32 ≤ b → cond {A = ℕ} (b == 10) 1 0 ≡ 0
one b h = grind (arith, nat_tests)

none : (xs : List ℕ) → NoControls xs → newlines xs ≡ 0
none [] h = refl
none (x ∷ xs) h = omega (arith, one x h.0, none xs h.1)

spaces : (n : ℕ) → newlines (replicate n 32) ≡ 0
spaces zero = refl
spaces (suc n) = omega (arith, spaces n)

led : (keyed : Bool) (depth : ℕ) → newlines (lead keyed depth) ≡ 0
led true depth = refl
led false depth = omega (arith, joined (indent depth) (codes "- "), spaces (2 * depth))

opens : (keyed : Bool) (depth : ℕ) → newlines (opening keyed depth) ≡ 1
opens true depth = refl
opens false depth = omega (arith, joined (indent depth) (codes "-\n"), spaces (2 * depth))

truths : (b : Bool) → newlines (truth_text b) ≡ 0
truths true = refl
truths false = refl

valued : (text : List ℕ) (keyed : Bool) (depth : ℕ) (shown : List ℕ) → newlines shown ≡ 0 → newlines (text ++ (lead keyed depth ++ (shown ++ codes "\n"))) ≡ newlines text + 1
valued text keyed depth shown h =
    omega (arith, joined text (lead keyed depth ++ (shown ++ codes "\n")), joined (lead keyed depth) (shown ++ codes "\n"), joined shown (codes "\n"), led keyed depth, h)

-- ---- long hex

first : (a b : Bool) → (a && b) ≡ true → a ≡ true
first true b h = refl
first false b h = h

second : (a b : Bool) → (a && b) ≡ true → b ≡ true
second true b h = h
second false true h = refl
second false false h = h

breaks_before : (depth n : ℕ) → newlines (break_before depth n) ≡ cond {A = ℕ} (n % 64 == 0) 1 0
breaks_before depth n = go (n % 64 == 0)
  where
    go : (b : Bool) → newlines (cond b (codes "\n" ++ indent depth) []) ≡ cond {A = ℕ} b 1 0
    go true = omega (arith, joined (codes "\n") (indent depth), spaces (2 * depth))
    go false = refl

digit : (b : ℕ) → is_hex_digit b ≡ true → 32 ≤ b
digit b h = grind (arith, nat_tests, h)

hexes : (depth n : ℕ) (text : List ℕ) → list_all is_hex_digit text ≡ true → newlines (broken depth n text) ≡ breaks n text
unfolding broken
hexes depth n [] h = refl
hexes depth n (b ∷ bs) h =
    omega (
      arith,
      joined (break_before depth n) (b ∷ broken depth (n + 1) bs),
      breaks_before depth n,
      one b (digit b (first (is_hex_digit b) (list_all is_hex_digit bs) h)),
      hexes depth (n + 1) bs (second (is_hex_digit b) (list_all is_hex_digit bs) h),
    )

hex_led : (keyed : Bool) (depth : ℕ) → newlines (hex_lead keyed depth) ≡ 0
hex_led true depth = refl
hex_led false depth = omega (arith, joined (indent depth) (codes "-"), spaces (2 * depth))

texted : (p : Page) (s : List ℕ) (b : Bool) → is_long_hex s ≡ b → newlines (cond b (with_hex p s) (with_value p (escaped s))).text ≡ newlines p.text + (1 + cond b (breaks 0 s) 0)
texted p s true h =
    let lines = broken (min (p.depth + 1) 128) 0 s in
    omega (
      arith,
      joined p.text (hex_lead p.keyed p.depth ++ (lines ++ codes "\n")),
      joined (hex_lead p.keyed p.depth) (lines ++ codes "\n"),
      joined lines (codes "\n"),
      hex_led p.keyed p.depth,
      hexes (min (p.depth + 1) 128) 0 s (second (nat_lt 64 (length s)) (list_all is_hex_digit s) h),
    )
texted p s false h = valued p.text p.keyed p.depth (escaped s) (none (escaped s) (escaped_shown s))

stepped : (p : Page) (t : Token) → newlines (step p t).text ≡ newlines p.text + ends_line t
unfolding step
stepped p begin_object = omega (arith, joined p.text (opening p.keyed p.depth), opens p.keyed p.depth)
stepped p end_object = omega arith
stepped p begin_array = omega (arith, joined p.text (opening p.keyed p.depth), opens p.keyed p.depth)
stepped p end_array = omega arith
stepped p (key k) =
    omega (arith, joined p.text (indent p.depth ++ (escaped k ++ codes ":")), joined (indent p.depth) (escaped k ++ codes ":"), joined (escaped k) (codes ":"), spaces (2 * p.depth), none (escaped k) (escaped_shown k))
stepped p (string s) = texted p s (is_long_hex s) refl
stepped p (number n) = valued p.text p.keyed p.depth (escaped n) (none (escaped n) (escaped_shown n))
stepped p (boolean b) = valued p.text p.keyed p.depth (truth_text b) (truths b)
stepped p null = valued p.text p.keyed p.depth (codes "none") refl
stepped p bad = omega arith

counted_from : (p : Page) (ts : List Token) → newlines (fold step p ts).text ≡ newlines p.text + lines_in ts
counted_from p [] = omega arith
counted_from p (t ∷ ts) = omega (arith, counted_from (step p t) ts, stepped p t)

-- a text has as many lines as its tokens say
pub counted : (ts : List Token) → newlines (text_of ts) ≡ lines_in ts
counted ts = omega (arith, counted_from blank ts)
