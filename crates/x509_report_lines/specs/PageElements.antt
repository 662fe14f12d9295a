-- The elements of an object in a page: a line each, and parts that fold where elements stand in one another.
use Rattle.std.specs.Prelude.{ℕ, zero, suc, ◌+◌, ◌-◌, ◌&&◌, nat_lt, min, Bool, List, [], ◌++◌, codes, decimal, drop, length, if◌then◌else◌}
use Rattle.x509_der.specs.Words.{ber_word, refusal_word}
use Rattle.x509_elements.specs.Elements.{Line}
use Rattle.x509_report_lines.specs.Texts.{called_text, cut_text, octets_text, tag_text, value_text}
use Rattle.x509_elements.specs.declared.line.What.{What}
use Rattle.x509_elements.specs.declared.line.What.TheVariants as whats
use Rattle.x509_report_lines.specs.PageEscape.{framed}

-- ---- a line

-- how many octets the header has, and how many stand behind it
abbrev pub size_of : What → ℕ
size_of (whats.Element h size there) = size
size_of (whats.Refused why) = 0

abbrev pub rest_by : What → ℕ → ℕ
rest_by (whats.Element h size there) own = there
rest_by (whats.Refused why) own = own

abbrev pub rest_of : Line → ℕ
rest_of l = rest_by l.what (length l.octets)

-- a number as an attribute
unfoldable pub attribute : List ℕ → ℕ → List ℕ
attribute name n = codes " data-" ++ (name ++ (codes "=\"" ++ (decimal n ++ codes "\"")))

unfoldable pub place_page : Line → List ℕ
place_page l = attribute (codes "at") l.offset ++ (attribute (codes "size") (size_of l.what) ++ attribute (codes "rest") (rest_of l))

abbrev pub type_text : What → List ℕ
type_text (whats.Element h size there) = tag_text h
type_text (whats.Refused why) = codes "bad: " ++ refusal_word ber_word why

abbrev pub contents_by : What → List ℕ → List ℕ
contents_by (whats.Element h size there) octets = cut_text h there ++ value_text h (drop size octets)
contents_by (whats.Refused why) octets = codes ": " ++ octets_text octets

abbrev pub contents_text : Line → List ℕ
contents_text l = contents_by l.what l.octets

unfoldable pub number_page : ℕ → List ℕ
number_page n = codes "<b>" ++ (decimal n ++ codes "</b> ")

-- offset, type, name and value
unfoldable pub row_page : Line → List ℕ
row_page l =
    number_page l.offset
    ++ (framed (codes "<code>") (type_text l.what) (codes "</code>")
    ++ (framed (codes "<i>") (called_text l.called) (codes "</i>") ++ framed (codes "<span>") (contents_text l) (codes "</span>")))

-- ---- parts that fold

-- in how many parts a line stands: 64 at most, as browsers hold no more than some hundred elements in one another
abbrev pub level : Line → ℕ
level l = min l.depth 64

-- whether elements with lines of their own stand in it
abbrev pub holds_elements : Line → Bool
holds_elements l = nat_lt (length l.octets - size_of l.what) (rest_of l)

abbrev pub folds : Line → Bool
folds l = nat_lt l.depth 64 && holds_elements l

unfoldable pub summary_page : Line → List ℕ
summary_page l = codes "<summary>" ++ (row_page l ++ codes "</summary>")

-- the tag of a line, whose words these are
unfoldable pub tag_page : List ℕ → Line → List ℕ
tag_page words l = codes "<" ++ (words ++ (place_page l ++ codes ">"))

abbrev pub fold_page : Line → List ℕ
fold_page l = tag_page (codes "details open") l ++ summary_page l

unfoldable pub leaf_page : Line → List ℕ
leaf_page l = tag_page (codes "div") l ++ (row_page l ++ codes "</div>")

unfoldable pub closings : ℕ → List ℕ
closings zero = []
closings (suc n) = closings n ++ codes "</details>"

abbrev pub begun : Line → List ℕ
begun l = if folds l then fold_page l else leaf_page l

-- a line where so many parts are open: those in which it doesn't stand end before it
unfoldable pub element_page : ℕ → Line → List ℕ
element_page opened l = closings (opened - level l) ++ begun l

-- how many parts are open behind it
abbrev pub open_behind : Line → ℕ
open_behind l = if folds l then level l + 1 else level l

-- what is wrong at an octet
unfoldable pub mark_page : ℕ → List ℕ → List ℕ
mark_page at words = codes "<p" ++ (attribute (codes "at") at ++ (codes ">" ++ (number_page at ++ framed (codes "<strong>") words (codes "</strong></p>"))))
