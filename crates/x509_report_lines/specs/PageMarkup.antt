-- The tags of a page: what a browser takes for markup, and leaves out what stands between.
use Rattle.std.specs.Prelude.{◌≡◌, ℕ, ◌-◌, ◌==◌, ◌||◌, not, Bool, true, false, List, [], ◌∷◌, ◌++◌, codes, flat_map, if◌then◌else◌}
use Rattle.json.specs.Token.{Token, begin_object, end_object, begin_array, end_array, key, string, number, boolean, null, bad}
use Rattle.x509_elements.specs.Elements.{Line}
use Rattle.x509_report_lines.specs.PageElements.{attribute, closings, folds, level, tag_page}

-- a tag goes from `<` to the next `>` (HTML living standard, 13.1.2; no attribute of these pages holds one)
abbrev pub is_inside : Bool → ℕ → Bool
is_inside true b = not (b == 0x3e)
is_inside false b = b == 0x3c

abbrev pub kept : Bool → ℕ → List ℕ
kept inside b = if inside || b == 0x3c then b ∷ [] else []

-- the octets of tags, of a text that begins inside of one or outside
abbrev pub markup : Bool → List ℕ → List ℕ
markup inside [] = []
markup inside (b ∷ bs) = kept inside b ++ markup (is_inside inside b) bs

-- whether a text ends inside of a tag
abbrev pub ends_inside : Bool → List ℕ → Bool
ends_inside inside [] = inside
ends_inside inside (b ∷ bs) = ends_inside (is_inside inside b) bs

-- these are the tags of a text, all of them whole
pub record IsMarked (text tags : List ℕ) : Type 0 where
  pub are : markup false text ≡ tags
  pub whole : ends_inside false text ≡ false

-- ---- the tags of a report go by which tokens it has

abbrev pub tags_of : Token → List ℕ
tags_of begin_object = codes "<details open><summary></summary>"
tags_of end_object = codes "</details>"
tags_of begin_array = codes "<details open><summary></summary>"
tags_of end_array = codes "</details>"
tags_of (key k) = []
tags_of (string s) = codes "<div><b></b><span></span></div>"
tags_of (number n) = codes "<div><b></b><span></span></div>"
tags_of (boolean b) = codes "<div><b></b><span></span></div>"
tags_of null = codes "<div><b></b><span><i></i></span></div>"
tags_of bad = []

abbrev pub tags_in : List Token → List ℕ
tags_in ts = flat_map tags_of ts

-- ---- those of an element go by its place and by whether elements stand in it

abbrev pub row_tags : List ℕ
row_tags = codes "<b></b><code></code><i></i><span></span>"

abbrev pub begun_tags : Line → List ℕ
begun_tags l =
    if folds l then tag_page (codes "details open") l ++ (codes "<summary>" ++ (row_tags ++ codes "</summary>"))
    else tag_page (codes "div") l ++ (row_tags ++ codes "</div>")

abbrev pub element_tags : ℕ → Line → List ℕ
element_tags opened l = closings (opened - level l) ++ begun_tags l

-- ---- those of a mark by its place

abbrev pub mark_tags : ℕ → List ℕ
mark_tags at = (codes "<p" ++ (attribute (codes "at") at ++ codes ">")) ++ codes "<b></b><strong></strong></p>"

abbrev pub octets_tags : List ℕ
octets_tags = codes "<details class=\"octets\"><summary></summary><pre></pre></details>"
