-- A text in a page.
use Rattle.std.specs.Prelude.{◌≢◌, ℕ, ◌≤◌, Bool, ◌||◌, ◌==◌, nat_lt, List, [], ◌∷◌, ◌++◌, codes, decimal, encode_utf8, flat_map, if◌then◌else◌}
use Rattle.std.specs.Str.{chars}
use Rattle.x509_report_lines.specs.Escape.{escaped}

-- controls, both quotes, the ampersand, and the signs that begin and end a tag (HTML living standard, 13.1.2 to 13.1.4)
abbrev pub is_markup : ℕ → Bool
is_markup c = nat_lt c 0x20 || c == 0x22 || c == 0x26 || c == 0x27 || c == 0x3c || c == 0x3e

-- a reference by number in decimal (HTML living standard, 13.1.4)
abbrev pub reference : ℕ → List ℕ
reference c = codes "&#" ++ (decimal c ++ codes ";")

unfoldable pub html_char : ℕ → List ℕ
html_char c = if is_markup c then reference c else encode_utf8 c

abbrev pub html_chars : List ℕ → List ℕ
html_chars cs = flat_map html_char cs

-- what could forge a line or hide text is shown by number, as to people; then no character is markup
abbrev pub html : List ℕ → List ℕ
html text = html_chars (chars (escaped text))

-- a text between two pieces of markup
unfoldable pub framed : List ℕ → List ℕ → List ℕ → List ℕ
framed before text behind = before ++ (html text ++ behind)

-- no control, no quote, and nothing that begins or ends a tag
abbrev pub IsPlainOctet : ℕ → Type 0
IsPlainOctet b = (32 ≤ b) × (b ≢ 0x22) × (b ≢ 0x27) × (b ≢ 0x3c) × (b ≢ 0x3e)

abbrev pub IsPlain : List ℕ → Type 0
IsPlain [] = Unit {0}
IsPlain (b ∷ bs) = IsPlainOctet b × IsPlain bs
