-- The lines of a file.
use Rattle.std.specs.Prelude.{◌≡◌, ◌⊎◌, ℕ, ◌+◌, ◌-◌, ◌==◌, List, [], ◌∷◌, Bool, true, false, not, ◌&&◌, if◌then◌else◌, Option, Some, None, Result, Ok, Err, codes, get_or, length}
use Rattle.std.specs.Io.KnownBytes.{Appends}
use Rattle.base64.specs.Engines.{standard}
use Rattle.base64.specs.GeneralPurpose.{decode_of}
use Rattle.x509_report_lines.specs.Blocks.{Pem, blocks_of}
use Rattle.x509_report_lines.specs.Elements.{IsSplit}
use Rattle.x509_report_objects.specs.Objects.{failed_report, skipped_report}
use Rattle.x509_report_objects.specs.Places.{Found}
use Rattle.x509_report_objects.specs.declared.kind.Kind.{Kind}
use Rattle.x509_report.specs.Labels.{kind_in, label_text, only, wants_any}
use Rattle.x509_report.specs.Objects.{Asks, asks_of, lines_of_object}
use Rattle.x509_report.specs.Told.{Told, WritesFront, both, nothing, one, text}
use Rattle.x509_report.specs.declared.options.Asked.{Asked}

-- what is asked of a file, and its name
pub record Task : Type 0 where
  pub asks : Asks
  pub file : List ℕ

abbrev pub task_of : Asked → List ℕ → Task
task_of asked file = record { asks = asks_of asked; file = file }

-- ---- elements of DER, one behind another

abbrev pub element_at : Task → ℕ → ℕ → Found
element_at t index offset = record { file = t.file; index = index; offset = offset; label = None }

abbrev pub element_told : Task → ℕ → ℕ → List ℕ → Told
element_told t index offset octets = lines_of_object t.asks (element_at t index offset) octets

-- elements, the first of which is the so manyth of the file, and stands at this octet
unfoldable pub elements_told : Task → ℕ → ℕ → List (List ℕ) → Told
elements_told t n offset [] = nothing
elements_told t n offset (e ∷ es) = both (element_told t n offset e) (elements_told t (n + 1) (offset + length e) es)

-- what is left behind them is an object that is refused
abbrev pub rest_told : Task → ℕ → ℕ → List ℕ → Told
rest_told t n offset rest = if length rest == 0 then nothing else element_told t n offset rest

unfoldable pub der_told : Task → List ℕ → List (List ℕ) → List ℕ → Told
der_told t octets elements rest = both (elements_told t 0 0 elements) (rest_told t (length elements) (length octets - length rest) rest)

-- ---- blocks of PEM

abbrev pub block_at : Task → ℕ → Pem → Found
block_at t index b = record { file = t.file; index = index; offset = b.at; label = label_text b.label }

abbrev pub failed : Asks → Found → List ℕ → List ℕ → List ℕ → Told
failed a p octets kind word = one a.form false (failed_report a.wishes p octets kind word)

abbrev pub skipped : Asks → Found → List ℕ → Told
skipped a p octets = one a.form true (skipped_report a.wishes p octets)

-- the object that a base64 text stands for (RFC 4648, section 4)
abbrev pub decoded_told : {E : Type 0} → Asks → Found → List ℕ → Result (List ℕ) E → Told
decoded_told a p symbols (Ok octets) = lines_of_object a p octets
decoded_told a p symbols (Err e) = failed a p symbols (codes "base64") (codes "not base64")

abbrev pub symbols_told : Asks → Found → List ℕ → Told
symbols_told a p symbols = decoded_told a p symbols (decode_of standard symbols)

-- a block that holds an object, where objects of its kind are wanted, and has an end
abbrev pub whole_told : Asks → Found → Pem → Told
whole_told a p b =
    if not (wants_any a.wishes) then skipped a p b.symbols
    else if b.whole then symbols_told a p b.symbols
    else failed a p b.symbols (codes "pem") (codes "no END line")

abbrev pub kind_told : Asks → Found → Pem → Option Kind → Told
kind_told a p b (Some kind) = whole_told (record a { wishes = only a.wishes kind }) p b
kind_told a p b None = skipped a p b.symbols

unfoldable pub block_told : Task → ℕ → Pem → Told
block_told t index b = kind_told t.asks (block_at t index b) b (kind_in (label_text b.label))

unfoldable pub blocks_told : Task → ℕ → List Pem → Told
blocks_told t n [] = nothing
blocks_told t n (b ∷ bs) = both (block_told t n b) (blocks_told t (n + 1) bs)

-- ---- a file

-- whether the first octet is that of a SEQUENCE (X.690, 8.9.1), as every object begins with one
abbrev pub may_be_der : List ℕ → Bool
may_be_der octets = get_or octets 0 0 == 48

abbrev pub is_empty : {X : Type 0} → List X → Bool
is_empty xs = length xs == 0

abbrev pub neither_told : Task → List ℕ → Told
neither_told t octets = failed t.asks (element_at t 0 0) octets (codes "file") (codes "neither PEM nor DER")

-- where no element is whole: PEM, or DER that is refused as a whole, or neither of the two
abbrev pub other_told : Task → List ℕ → Told
other_told t octets =
    if not (is_empty (blocks_of octets)) then blocks_told t 0 (blocks_of octets)
    else if may_be_der octets then der_told t octets [] octets
    else neither_told t octets

-- DER, where it may be and an element is whole
abbrev pub choice : Task → List ℕ → List (List ℕ) → List ℕ → Told
choice t octets elements rest = if may_be_der octets && not (is_empty elements) then der_told t octets elements rest else other_told t octets

-- what is told of a file
pub record IsFileTold (t : Task) (octets : List ℕ) (told : Told) : Type 0 where
  pub elements : List (List ℕ)
  pub rest : List ℕ
  pub split : IsSplit octets elements rest
  pub chosen : told ≡ choice t octets elements rest

-- every line of a file is written, and the answer is whether all of its objects were taken
pub record TellsFile (t : Task) (octets : List ℕ) (old new : Option (List ℕ)) (taken : Bool) : Type 0 where
  pub told : Told
  pub is : IsFileTold t octets told
  pub all : taken ≡ told.taken
  pub text : Appends old new (text told.lines)

-- memory was refused: nothing of a file is written, or the first of its lines are, each whole
abbrev pub StopsInFile : Task → List ℕ → Option (List ℕ) → Option (List ℕ) → Type 0
StopsInFile t octets old new = Appends old new [] ⊎ ((told : Told) × IsFileTold t octets told × WritesFront old new told.lines)
