-- The elements of an object, a line each, with marks where a reader refuses it and where values of extensions are refused: lines for people, or
-- parts of a page.
use Rattle.std.specs.Prelude.{ℕ, suc, ◌+◌, ◌-◌, ◌&&◌, nat_lt, nat_le, Bool, List, [], ◌∷◌, ◌++◌, codes, drop, flat_map, length, take, if◌then◌else◌}
use Rattle.x509_der.specs.Words.{refusal_word}
use Rattle.x509_der.specs.declared.error.Located.{Located}
use Rattle.x509_elements.specs.Elements.{Line, elements_of}
use Rattle.x509_elements.specs.RefusedValues.{refused_values}
use Rattle.x509_elements.specs.declared.part.Part.{Part}
use Rattle.x509_elements.specs.declared.refused.refused_value.RefusedValue.{RefusedValue}
use Rattle.x509_fields.specs.Errors.{x509_word}
use Rattle.x509_fields.specs.declared.error.X509Error.{X509Error}
use Rattle.x509_report_lines.specs.PageElements.{closings, element_page, mark_page, open_behind}
use Rattle.x509_report_lines.specs.PageOctets.{octets_page}
use Rattle.x509_report_lines.specs.Texts.{at_right, line_text}
use Rattle.x509_report.specs.Views.{part_of, part_word}
use Rattle.x509_report.specs.declared.options.Form.{Form}
use Rattle.x509_report.specs.declared.options.Form.TheVariants as forms
use Rattle.x509_report.specs.declared.views.View.{View}
use Rattle.x509_report.specs.declared.views.View.TheVariants as views

-- ---- marks

-- for people a mark is a line of its own: the octet, and what is wrong there
abbrev pub mark_line : ℕ → List ℕ → List ℕ
mark_line at words = at_right 5 at ++ (codes ":^ " ++ (words ++ codes "\n"))

abbrev pub mark : Form → ℕ → List ℕ → List ℕ
mark forms.Html at words = mark_page at words
mark forms.Json at words = mark_line at words
mark forms.Text at words = mark_line at words

abbrev pub refusal_words : Part → Located X509Error → List ℕ
refusal_words part e = codes "no " ++ (part_word part ++ (codes ": " ++ refusal_word x509_word e.why))

abbrev pub holds : Line → ℕ → Bool
holds l at = nat_le l.offset at && nat_lt (at - l.offset) (length l.octets)

-- below the line that holds the octet
abbrev pub mark_in : Form → View → Line → List ℕ
mark_in form (views.Refused part e) l = if holds l e.at then mark form e.at (refusal_words part e) else []
mark_in form views.Nothing l = []
mark_in form (views.Taken part) l = []

-- behind all lines, where none holds it
abbrev pub mark_behind : Form → View → List ℕ → List ℕ
mark_behind form (views.Refused part e) octets = if nat_le (length octets) e.at then mark form e.at (refusal_words part e) else []
mark_behind form views.Nothing octets = []
mark_behind form (views.Taken part) octets = []

-- ---- values of extensions that can't be read

-- the octet below whose line such a value is marked: that at which it is refused, and where it ends before that the one before
abbrev pub held : RefusedValue → ℕ
held v = if nat_lt (v.at - v.value_at) v.value_size then v.at else v.at - 1

abbrev pub value_words : RefusedValue → List ℕ
value_words v = codes "no extension value: " ++ refusal_word x509_word v.why

abbrev pub value_marks : Form → List RefusedValue → List ℕ
value_marks form vs = flat_map (λ v. mark form v.at (value_words v)) vs

-- how many of them, from the first on, are marked before an octet
abbrev pub count_before : ℕ → List RefusedValue → ℕ
count_before end [] = 0
count_before end (v ∷ vs) = if nat_lt (held v) end then suc (count_before end vs) else 0

-- of the values that are left those that are marked below a line, and those that are left behind it
abbrev pub count_in : Line → List RefusedValue → ℕ
count_in l vs = count_before (l.offset + length l.octets) vs

abbrev pub values_in : Line → List RefusedValue → List RefusedValue
values_in l vs = take (count_in l vs) vs

abbrev pub values_behind : Line → List RefusedValue → List RefusedValue
values_behind l vs = drop (count_in l vs) vs

-- ---- lines with their marks

-- the line of an element, where so many parts of a page are open ..
abbrev pub element_line : Form → ℕ → Line → List ℕ
element_line forms.Html opened l = element_page opened l
element_line forms.Json opened l = line_text l
element_line forms.Text opened l = line_text l

-- .. and how many are open behind it
abbrev pub open_told : Form → Line → ℕ
open_told forms.Html l = open_behind l
open_told forms.Json l = 0
open_told forms.Text l = 0

abbrev pub marked : Form → View → List RefusedValue → ℕ → Line → List ℕ
marked form view vs opened l = element_line form opened l ++ (mark_in form view l ++ value_marks form (values_in l vs))

-- behind the last line the marks that are left
unfoldable pub marks_behind : Form → View → List ℕ → List RefusedValue → List ℕ
marks_behind form view octets vs = value_marks form vs ++ mark_behind form view octets

-- in a page all parts end before them, and the octets stand behind them
unfoldable pub section_end : View → List ℕ → List RefusedValue → ℕ → List ℕ
section_end view octets vs opened = closings opened ++ (marks_behind forms.Html view octets vs ++ (octets_page octets ++ codes "</section>\n"))

abbrev pub end_told : Form → View → List ℕ → List RefusedValue → ℕ → List ℕ
end_told forms.Html view octets vs opened = section_end view octets vs opened
end_told forms.Json view octets vs opened = marks_behind forms.Json view octets vs
end_told forms.Text view octets vs opened = marks_behind forms.Text view octets vs

-- lines where so many parts are open, and what stands behind the last
unfoldable pub marked_lines : Form → View → List ℕ → List RefusedValue → ℕ → List Line → List (List ℕ)
marked_lines form view octets vs opened [] = end_told form view octets vs opened ∷ []
marked_lines form view octets vs opened (l ∷ ls) = marked form view vs opened l ∷ marked_lines form view octets (values_behind l vs) (open_told form l) ls

-- ---- all of them

abbrev pub refused_in : View → List ℕ → List RefusedValue
refused_in view octets = refused_values (part_of view) octets

unfoldable pub dump_lines : Form → View → List ℕ → List (List ℕ)
dump_lines form view octets = marked_lines form view octets (refused_in view octets) 0 (elements_of (part_of view) octets)

-- in a page they are a section
unfoldable pub section_page : View → List ℕ → List (List ℕ)
section_page view octets = codes "<section>\n" ∷ dump_lines forms.Html view octets

abbrev pub dump_told : Form → View → List ℕ → List (List ℕ)
dump_told forms.Html view octets = section_page view octets
dump_told forms.Json view octets = dump_lines forms.Json view octets
dump_told forms.Text view octets = dump_lines forms.Text view octets
