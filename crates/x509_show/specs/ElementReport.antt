-- The report of the element at the front of an input.
use Rattle.std.specs.Prelude.{◌≡◌, List, ℕ, ◌++◌, Bool, length, codes, Ok, Err, if◌then◌else◌}
use Rattle.std.specs.Fmt.{decimal}
use Rattle.x509_der.specs.declared.header.Class.{Class}
use Rattle.x509_der.specs.declared.header.Class.TheVariants.{Universal, Application, ContextSpecific, Private}
use Rattle.x509_der.specs.Reading.{Reading, Element, strict}
use Rattle.x509_der.specs.Elements.{ElementIs}
use Rattle.x509_der.specs.Words.{ber_word}
use Rattle.x509_show.specs.Report.{Report, refused_report}

abbrev pub class_word : Class → List ℕ
class_word Universal = codes "universal"
class_word Application = codes "application"
class_word ContextSpecific = codes "context"
class_word Private = codes "private"

abbrev pub form_word : Bool → List ℕ
form_word constructed = if constructed then codes "constructed" else codes "primitive"

-- the line of an element, and of the bytes behind it
abbrev pub element_line : Element → List ℕ → List ℕ
element_line element rest =
    class_word element.header.class ++ codes " " ++ form_word element.header.constructed
    ++ codes " tag=" ++ decimal element.header.tag.0 ++ codes " length=" ++ decimal element.header.length
    ++ codes " rest=" ++ decimal (length rest) ++ codes "\n"

unfoldable pub accepted_report : Element → List ℕ → Report
accepted_report element rest = record { text = element_line element rest; status = 0 }

abbrev pub reading_report : Reading Element → Report
reading_report (Ok x) = accepted_report x.1 x.0
reading_report (Err refusal) = refused_report ber_word refusal

-- the report of what the input is to a reader of elements in the distinguished encoding rules
pub record IsElementReport (input : List ℕ) (report : Report) : Type 0 where
  pub reading : Reading Element
  pub read : ElementIs strict input reading
  pub reported : report ≡ reading_report reading
