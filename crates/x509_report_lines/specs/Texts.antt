-- Lines as text, in the columns of `openssl asn1parse -i`.
use Rattle.std.specs.Prelude.{ℕ, ◌^◌, ◌-◌, ◌==◌, ◌&&◌, ◌||◌, nat_lt, nat_le, min, Bool, false, List, [], ◌∷◌, ◌++◌, length, take, drop, replicate, codes, decimal, Option, Some, None, if◌then◌else◌}
use Rattle.std.specs.Fmt.{format_spec, padded_integral}
use Rattle.std.specs.List.{list_all}
use Rattle.std.specs.Str.{is_utf8}
use Rattle.x509_der.specs.declared.error.BerError.{BerError}
use Rattle.x509_der.specs.declared.error.Err.{Err as Refusal}
use Rattle.x509_der.specs.declared.header.Class.{Class}
use Rattle.x509_der.specs.declared.header.Class.TheVariants as classes
use Rattle.x509_der.specs.declared.header.Header.{Header}
use Rattle.x509_der.specs.Hex.{hex_text}
use Rattle.x509_der.specs.Oid.{oid_text}
use Rattle.x509_der.specs.Primitives.{is_context, is_universal}
use Rattle.x509_der.specs.Words.{ber_word, refusal_word}
use Rattle.x509_elements.specs.Elements.{Line}
use Rattle.x509_elements.specs.declared.line.What.{What}
use Rattle.x509_elements.specs.declared.line.What.TheVariants as whats
use Rattle.x509_names.specs.Objects.{registered_name}
use Rattle.x509_elements.specs.Cursors.{Called}
use Rattle.x509_report_lines.specs.Escape.{escaped}

-- ---- types

-- what the universal types are called (X.680, 8.4), as asn1parse writes it
abbrev pub universal_word : ℕ → Option (List ℕ)
universal_word n =
    if n == 0 then Some (codes "EOC") else
    if n == 1 then Some (codes "BOOLEAN") else
    if n == 2 then Some (codes "INTEGER") else
    if n == 3 then Some (codes "BIT STRING") else
    if n == 4 then Some (codes "OCTET STRING") else
    if n == 5 then Some (codes "NULL") else
    if n == 6 then Some (codes "OBJECT") else
    if n == 7 then Some (codes "OBJECT DESCRIPTOR") else
    if n == 8 then Some (codes "EXTERNAL") else
    if n == 9 then Some (codes "REAL") else
    if n == 10 then Some (codes "ENUMERATED") else
    if n == 12 then Some (codes "UTF8STRING") else
    if n == 16 then Some (codes "SEQUENCE") else
    if n == 17 then Some (codes "SET") else
    if n == 18 then Some (codes "NUMERICSTRING") else
    if n == 19 then Some (codes "PRINTABLESTRING") else
    if n == 20 then Some (codes "T61STRING") else
    if n == 21 then Some (codes "VIDEOTEXSTRING") else
    if n == 22 then Some (codes "IA5STRING") else
    if n == 23 then Some (codes "UTCTIME") else
    if n == 24 then Some (codes "GENERALIZEDTIME") else
    if n == 25 then Some (codes "GRAPHICSTRING") else
    if n == 26 then Some (codes "VISIBLESTRING") else
    if n == 27 then Some (codes "GENERALSTRING") else
    if n == 28 then Some (codes "UNIVERSALSTRING") else
    if n == 30 then Some (codes "BMPSTRING") else
    None

abbrev pub numbered : List ℕ → ℕ → List ℕ
numbered class n = class ++ codes " [ " ++ decimal n ++ codes " ]"

abbrev pub universal_text : ℕ → Option (List ℕ) → List ℕ
universal_text n (Some word) = word
universal_text n None = codes "<ASN1 " ++ decimal n ++ codes ">"

abbrev pub class_text : Class → ℕ → List ℕ
class_text classes.Universal n = universal_text n (universal_word n)
class_text classes.Application n = numbered (codes "appl") n
class_text classes.ContextSpecific n = numbered (codes "cont") n
class_text classes.Private n = numbered (codes "priv") n

abbrev pub tag_text : Header → List ℕ
tag_text h = class_text h.class h.tag.0

-- ---- what it is called

abbrev pub name_text : List ℕ → List ℕ
name_text [] = []
name_text (c ∷ cs) = codes " " ++ c ∷ cs

abbrev pub number_text : Option ℕ → List ℕ
number_text (Some n) = codes " [" ++ decimal n ++ codes "]"
number_text None = []

abbrev pub called_text : Called → List ℕ
called_text c = name_text c.name ++ (number_text c.number ++ name_text c.alternative)

-- ---- its value

-- of many octets the first 32
abbrev pub octets_text : List ℕ → List ℕ
octets_text octets = if nat_lt 32 (length octets) then hex_text [] (take 32 octets) ++ codes ".." else hex_text [] octets

abbrev pub registered_text : Option (List ℕ) → List ℕ
registered_text (Some name) = codes " " ++ name
registered_text None = []

abbrev pub identifier_text : List ℕ → List ℕ
identifier_text octets = oid_text octets ++ registered_text (registered_name octets)

abbrev pub is_identifier : Header → Bool
is_identifier h = is_universal h.class && h.tag.0 == 6

-- TRUE and FALSE (X.690, 8.2 and 11.1)
abbrev pub truth_octet : List ℕ → Option (List ℕ)
truth_octet [] = None
truth_octet (b ∷ []) = if b == 0 then Some (codes "FALSE") else if b == 255 then Some (codes "TRUE") else None
truth_octet (b ∷ c ∷ bs) = None

abbrev pub truth_word : Header → List ℕ → Option (List ℕ)
truth_word h contents = if is_universal h.class && h.tag.0 == 1 then truth_octet contents else None

-- strings, and times (X.680, 8.4)
abbrev pub holds_text : Header → Bool
holds_text h = is_universal h.class && (h.tag.0 == 12 || (nat_le 18 h.tag.0 && nat_le h.tag.0 27))

abbrev pub is_printable : ℕ → Bool
is_printable b = nat_le 0x20 b && nat_le b 0x7e

-- what has a number of its structure's own may be text where all of it can be printed
abbrev pub may_be_text : Header → List ℕ → Bool
may_be_text h contents = holds_text h || (is_context h.class && list_all is_printable contents)

abbrev pub text_in : Header → List ℕ → Option (List ℕ)
text_in h contents = if may_be_text h contents then (if is_utf8 contents then Some contents else None) else None

-- text in quotes, and else octets
abbrev pub text_or_octets : List ℕ → Option (List ℕ) → List ℕ
text_or_octets contents (Some text) = codes "\"" ++ text ++ codes "\""
text_or_octets contents None = octets_text contents

abbrev pub word_or : Option (List ℕ) → List ℕ → List ℕ
word_or (Some word) other = word
word_or None other = other

abbrev pub value_shown : Header → List ℕ → List ℕ
value_shown h contents =
    if is_identifier h && nat_le (length contents) 64 then identifier_text contents
    else word_or (truth_word h contents) (text_or_octets contents (text_in h contents))

abbrev pub value_text : Header → List ℕ → List ℕ
value_text h [] = []
value_text h (b ∷ bs) = codes ": " ++ value_shown h (b ∷ bs)

-- ---- a line

-- a number at the right of a column, and at its left
abbrev pub at_right : ℕ → ℕ → List ℕ
at_right width n = padded_integral (format_spec 32 3 0 width (2 ^ 64 - 1)) false [] (decimal n)

abbrev pub at_left : ℕ → ℕ → List ℕ
at_left width n = padded_integral (format_spec 32 1 0 width (2 ^ 64 - 1)) false [] (decimal n)

abbrev pub indent : ℕ → List ℕ
indent depth = replicate (min depth 128) 32

-- offset, depth, octets of the header, octets of the contents, and whether these are elements
abbrev pub cells : Line → ℕ → ℕ → List ℕ → List ℕ
cells l size len form = at_right 5 l.offset ++ (codes ":d=" ++ (at_left 2 l.depth ++ (codes " hl=" ++ (decimal size ++ (codes " l=" ++ (at_right 4 len ++ (codes " " ++ (form ++ codes ": "))))))))

abbrev pub columns : Line → ℕ → ℕ → List ℕ → List ℕ
columns l size len form = cells l size len form ++ indent l.depth

abbrev pub form_text : Header → List ℕ
form_text h = if h.constructed then codes "cons" else codes "prim"

-- where octets of the contents are missing, how many are there
abbrev pub cut_text : Header → ℕ → List ℕ
cut_text h there = if nat_lt there h.length then codes " !cut, " ++ decimal there ++ codes " octets are there" else []

abbrev pub element_text : Line → Header → ℕ → ℕ → List ℕ
element_text l h size there =
    columns l size h.length (form_text h) ++ tag_text h ++ called_text l.called ++ cut_text h there ++ value_text h (drop size l.octets)

abbrev pub refused_text : Line → Refusal BerError → List ℕ
refused_text l why = columns l 0 (length l.octets) (codes "bad!") ++ refusal_word ber_word why ++ (codes ": " ++ octets_text l.octets)

abbrev pub what_text : Line → What → List ℕ
what_text l (whats.Element h size there) = element_text l h size there
what_text l (whats.Refused why) = refused_text l why

unfoldable pub raw_text : Line → List ℕ
raw_text l = what_text l l.what

-- characters that could forge a line or hide text are shown by number
unfoldable pub line_text : Line → List ℕ
line_text l = escaped (raw_text l) ++ codes "\n"
