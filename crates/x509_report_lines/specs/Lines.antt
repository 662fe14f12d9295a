-- Lines for people, of the tokens of a JSON value.
use Rattle.std.specs.Prelude.{ℕ, ◌+◌, ◌-◌, ◌*◌, ◌%◌, ◌==◌, ◌&&◌, ◌||◌, nat_lt, min, Bool, true, false, List, [], ◌∷◌, ◌++◌, codes, fold, length, replicate, if◌then◌else◌}
use Rattle.std.specs.List.{list_all}
use Rattle.json.specs.Token.{Token, begin_object, end_object, begin_array, end_array, key, string, number, boolean, null, bad}
use Rattle.x509_report_lines.specs.Escape.{escaped, within}

-- the text so far, how deep the next token stands, and whether a key stands before it on its line
pub record Page : Type 0 where
  pub text : List ℕ
  pub depth : ℕ
  pub keyed : Bool

abbrev pub indent : ℕ → List ℕ
indent depth = replicate (2 * depth) 32

-- what stands before a value: a space behind its key, else a line of its own with a dash
abbrev pub lead : Bool → ℕ → List ℕ
lead true depth = codes " "
lead false depth = indent depth ++ codes "- "

-- what stands before the members of an object or the items of a list: the end of its key's line, or a line with a dash
abbrev pub opening : Bool → ℕ → List ℕ
opening true depth = codes "\n"
opening false depth = indent depth ++ codes "-\n"

abbrev pub with_value : Page → List ℕ → Page
with_value p shown = record { text = p.text ++ (lead p.keyed p.depth ++ (shown ++ codes "\n")); depth = p.depth; keyed = false }

-- ---- long hex, in lines of 64 digits

abbrev pub is_hex_digit : ℕ → Bool
is_hex_digit b = within 48 57 b || within 97 102 b

-- no other text is broken into lines, so that no name decides where a line begins
abbrev pub is_long_hex : List ℕ → Bool
is_long_hex text = nat_lt 64 (length text) && list_all is_hex_digit text

abbrev pub break_before : ℕ → ℕ → List ℕ
break_before depth n = if n % 64 == 0 then codes "\n" ++ indent depth else []

-- digits, the first of which is the so manyth: a line begins before each 64 of them
unfoldable pub broken : ℕ → ℕ → List ℕ → List ℕ
broken depth n [] = []
broken depth n (b ∷ bs) = break_before depth n ++ (b ∷ broken depth (n + 1) bs)

-- what stands before the lines
abbrev pub hex_lead : Bool → ℕ → List ℕ
hex_lead true depth = []
hex_lead false depth = indent depth ++ codes "-"

abbrev pub with_hex : Page → List ℕ → Page
with_hex p text = record { text = p.text ++ (hex_lead p.keyed p.depth ++ (broken (min (p.depth + 1) 128) 0 text ++ codes "\n")); depth = p.depth; keyed = false }

abbrev pub with_text : Page → List ℕ → Page
with_text p text = if is_long_hex text then with_hex p text else with_value p (escaped text)

-- ---- tokens

abbrev pub opened : Page → Page
opened p = record { text = p.text ++ opening p.keyed p.depth; depth = min (p.depth + 1) 128; keyed = false }

abbrev pub closed : Page → Page
closed p = record { text = p.text; depth = p.depth - 1; keyed = false }

abbrev pub truth_text : Bool → List ℕ
truth_text true = codes "yes"
truth_text false = codes "no"

abbrev pub after_key : Page → List ℕ → Page
after_key p k = record { text = p.text ++ (indent p.depth ++ (escaped k ++ codes ":")); depth = p.depth; keyed = true }

unfoldable pub step : Page → Token → Page
step p begin_object = opened p
step p end_object = closed p
step p begin_array = opened p
step p end_array = closed p
step p (key k) = after_key p k
step p (string s) = with_text p s
step p (number n) = with_value p (escaped n)
step p (boolean b) = with_value p (truth_text b)
step p null = with_value p (codes "none")
step p bad = p

-- as behind a key, so that an empty line stands before the members of an object
abbrev pub blank : Page
blank = record { text = []; depth = 0; keyed = true }

abbrev pub page_of : List Token → Page
page_of ts = fold step blank ts

abbrev pub text_of : List Token → List ℕ
text_of ts = (page_of ts).text

-- how many newlines there are
abbrev pub newlines : List ℕ → ℕ
newlines [] = 0
newlines (b ∷ bs) = (if b == 10 then 1 else 0) + newlines bs

-- how many lines begin within so many digits
abbrev pub breaks : ℕ → List ℕ → ℕ
breaks n [] = 0
breaks n (b ∷ bs) = (if n % 64 == 0 then 1 else 0) + breaks (n + 1) bs

-- each value ends a line, and so does the beginning of an object or of a list; long hex has a line more for each 64 digits
abbrev pub ends_line : Token → ℕ
ends_line begin_object = 1
ends_line end_object = 0
ends_line begin_array = 1
ends_line end_array = 0
ends_line (key k) = 0
ends_line (string s) = 1 + (if is_long_hex s then breaks 0 s else 0)
ends_line (number n) = 1
ends_line (boolean b) = 1
ends_line null = 1
ends_line bad = 0

abbrev pub lines_in : List Token → ℕ
lines_in [] = 0
lines_in (t ∷ ts) = ends_line t + lines_in ts
