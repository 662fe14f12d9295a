-- What is written of a line.
use Rattle.std.specs.Prelude.{ℕ, List, [], ◌∷◌, ◌++◌, codes}
use Rattle.json.specs.Json.{Json}
use Rattle.json.specs.Print.{print}
use Rattle.json.specs.Token.{Token}
use Rattle.x509_report_lines.specs.Lines.{text_of}
use Rattle.x509_report_lines.specs.Says.{written}
use Rattle.x509_report_lines.specs.PageReports.{report_page}
use Rattle.x509_report.specs.declared.options.Form.{Form}
use Rattle.x509_report.specs.declared.options.Form.TheVariants as forms

-- a part of a page
abbrev pub article_page : List Token → List ℕ
article_page line = codes "<article>" ++ (report_page line ++ codes "</article>\n")

-- these tokens: as JSON in one line; for people in an empty line and a line for each member; in a page as parts that fold
abbrev pub line_text : Form → List Token → List ℕ
line_text forms.Json line = print line ++ codes "\n"
line_text forms.Text line = text_of line
line_text forms.Html line = article_page line

-- an object is an item of a page, up to the next one (HTML living standard, 13.1.2.4: no end tag is needed)
abbrev pub begun : Form → List (List ℕ)
begun forms.Json = []
begun forms.Text = []
begun forms.Html = codes "<li>\n" ∷ []

-- what stands around the objects, where a page is written
abbrev pub around : Form → List (List ℕ) → List (List ℕ)
around forms.Json pieces = []
around forms.Text pieces = []
around forms.Html pieces = pieces

abbrev pub object_lines : Form → List Token → List (List ℕ)
object_lines form line = begun form ++ (line_text form line ∷ [])

-- a value, and that of an object
abbrev pub object_said : Form → Json → List (List ℕ)
object_said form j = object_lines form (written [] j)

abbrev pub said : Form → Json → List ℕ
said form j = line_text form (written [] j)
