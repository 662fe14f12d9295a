-- Attributes of a certification request (RFC 2986, 4.1).
use Rattle.std.specs.Prelude.{◌≡◌, ℕ, ◌&&◌, List, [], ◌∷◌, Bool, true, Option, Some, None, Result, Ok, Err, string_bytes, if◌then◌else◌}
use Rattle.std.specs.List.{find}
use Rattle.std.specs.Option.{option_map}
use Rattle.std.specs.Str.{bytes_eq}
use Rattle.std.specs.Borrow.{Bor}
use Rattle.x509_der.specs.declared.any.Any.{Any}
use Rattle.x509_der.specs.declared.error.Err.{Err as Refusal}
use Rattle.x509_der.specs.declared.error.Err.TheVariants.{Error}
use Rattle.x509_der.specs.Leaves.{BerPlan, any, oid, contents, sequence}
use Rattle.x509_der.specs.Oid.{oid_bytes}
use Rattle.x509_der.specs.Plan.{Outcome, ◌>>=◌, give, container, mapped, or_refuse, with_bytes, plain_when, PlainInside, marks_value, is_read}
use Rattle.x509_der.specs.Primitives.{is_constructed, has_number}
use Rattle.x509_der.specs.Reading.{Element, element_of, loose}
use Rattle.x509_names.specs.Objects.{pkcs}
use Rattle.x509_fields.specs.declared.error.X509Error.{X509Error}
use Rattle.x509_fields.specs.declared.error.X509Error.TheVariants as x509
use Rattle.x509_fields.specs.Fields.{Field, lifted, named}
use Rattle.x509_extensions.specs.declared.extension.X509Extension.{X509Extension}
use Rattle.x509_extensions.specs.Extension.{Extension}
use Rattle.x509_extensions.specs.ExtensionList.{extensions}
use Rattle.x509_requests.specs.PasswordTexts.{password}
use Rattle.x509_requests.specs.declared.cri_attribute.X509CriAttribute.{X509CriAttribute}
use Rattle.x509_requests.specs.declared.cri_attribute.ParsedCriAttribute.{ParsedCriAttribute}
use Rattle.x509_requests.specs.declared.cri_attribute.ParsedCriAttribute.TheVariants as variants
use Rattle.x509_requests.specs.ExtensionRequest.{request_of}
use Rattle.x509_requests.specs.declared.attribute_kind.AttributeKind.{AttributeKind}
use Rattle.x509_requests.specs.declared.attribute_kind.AttributeKind.TheVariants as kinds
use Rattle.x509_requests.specs.declared.attribute_parts.AttributeParts.{AttributeParts}

-- ---- the value

-- what the value of an attribute says: a text in UTF-8, or extensions; none where no reader is known for it
pub data ParsedAttribute : Type 0 where
  ChallengePassword : List ℕ → ParsedAttribute
  ExtensionRequest : List Extension → ParsedAttribute
  Unsupported : ParsedAttribute

-- value is the whole SET
pub record Attribute : Type 0 where
  pub oid : List ℕ
  pub value : List ℕ
  pub parsed : ParsedAttribute

abbrev pub parsed_of : ParsedCriAttribute → ParsedAttribute
parsed_of (variants.ChallengePassword p) = ChallengePassword (string_bytes p.0)
parsed_of (variants.ExtensionRequest r) = ExtensionRequest (request_of r)
parsed_of variants.UnsupportedAttribute = Unsupported

-- the extensions themselves, in order, of an attribute that asks for some
abbrev pub extensions_in : ParsedCriAttribute → Option (List X509Extension)
extensions_in (variants.ExtensionRequest r) = Some r.extensions
extensions_in _ = None

abbrev pub attribute_of : X509CriAttribute → Attribute
attribute_of a = record { oid = oid_bytes a.oid; value = a.value.now; parsed = parsed_of a.parsed_attribute }

-- ---- its parts

-- a SET: its bytes, and its header and contents
pub record SetValue : Type 0 where
  pub bytes : List ℕ
  pub element : Element

-- raw is the whole attribute
pub record Parts : Type 0 where
  pub raw : List ℕ
  pub oid : List ℕ
  pub set : SetValue

abbrev pub set_of : Bor (List ℕ) × Any → SetValue
set_of s = record { bytes = s.0.now; element = element_of s.1 }

abbrev pub parts_of : AttributeParts → Parts
parts_of p = record { raw = p.raw.now; oid = oid_bytes p.oid; set = set_of (p.set, p.element) }

-- a SEQUENCE, its length in any octets
unfoldable pub loose_sequence : BerPlan (List ℕ)
loose_sequence = contents (is_constructed 16) loose

abbrev pub set_or_refused : Element → Result (List ℕ → SetValue) (Refusal X509Error)
set_or_refused e = if has_number 17 e.header then Ok (λ bytes. record { bytes = bytes; element = e }) else Err (Error x509.InvalidAttributes)

-- SET OF AttributeValue: of its tag the number alone is looked at
unfoldable pub attribute_set : Field SetValue
attribute_set = with_bytes (mapped (named x509.InvalidAttributes any) set_or_refused)

-- Attribute ::= SEQUENCE { type OBJECT IDENTIFIER, values SET OF AttributeValue } (RFC 2986, 4.1)
unfoldable pub attribute_fields : Field Parts
attribute_fields = with_bytes (container (lifted loose_sequence) (do
  oid ← lifted oid
  set ← attribute_set
  give (λ raw. record { raw = raw; oid = oid; set = set })))

unfoldable pub attribute_parts : Field Parts
attribute_parts = or_refuse (Error x509.InvalidAttributes) attribute_fields

-- ---- what the values say

-- 1.2.840.113549.1.9.7 and 1.2.840.113549.1.9.14 (RFC 2985, 5.4)
abbrev pub known : List (List ℕ × AttributeKind)
known = (pkcs (0x09 ∷ 0x07 ∷ []), kinds.ChallengePassword) ∷ (pkcs (0x09 ∷ 0x0e ∷ []), kinds.ExtensionRequest) ∷ []

unfoldable pub kind_of : List ℕ → Option AttributeKind
kind_of id = option_map (λ r. r.1) (find (λ r. bytes_eq r.0 id) known)

abbrev pub row : AttributeKind → Field ParsedAttribute
row kinds.ChallengePassword = password >>= λ text. give (ChallengePassword text)
row kinds.ExtensionRequest = extensions true >>= λ xs. give (ExtensionRequest xs)

-- what stands at the front, whatever is behind it
abbrev pub first_value : Outcome (Refusal X509Error) ParsedAttribute → Result ParsedAttribute (Refusal X509Error)
first_value (Ok x) = Ok x.1
first_value (Err r) = Err (Error x509.InvalidAttributes)

abbrev pub said_by : Option AttributeKind → List ℕ → Result ParsedAttribute (Refusal X509Error)
said_by None values = Ok Unsupported
said_by (Some kind) values = first_value ((row kind).read values)

abbrev pub with_parsed : Parts → Result ParsedAttribute (Refusal X509Error) → Result Attribute (Refusal X509Error)
with_parsed p (Ok parsed) = Ok (record { oid = p.oid; value = p.set.bytes; parsed = parsed })
with_parsed p (Err r) = Err r

-- what the contents of the SET say, by the identifier
unfoldable pub said : Parts → Result Attribute (Refusal X509Error)
said p = with_parsed p (said_by (kind_of p.oid) p.set.element.contents)

-- ---- what stands plainly

abbrev pub PlainValues : Option AttributeKind → List ℕ → Type 0
PlainValues None values = Unit {0}
PlainValues (Some kind) values = PlainInside (row kind) values

abbrev pub marks_of_values : Option AttributeKind → List ℕ → Bool
marks_of_values None values = true
marks_of_values (Some kind) values = marks_value (row kind) values

-- A SEQUENCE and a SET, which hold a value that stands plainly and nothing behind it.
pub record PlainParts (p : Parts) : Type 0 where
  pub contents : List ℕ
  pub behind : List ℕ
  pub is_sequence : sequence.Is p.raw contents behind
  pub is_set : is_constructed 17 p.set.element.header ≡ true
  pub values : PlainValues (kind_of p.oid) p.set.element.contents

-- whether they do, as their reader tells
unfoldable pub parts_mark : Parts → Bool
parts_mark p = is_read (sequence.read p.raw) && (is_constructed 17 p.set.element.header && marks_of_values (kind_of p.oid) p.set.element.contents)

-- ---- the grammar

-- an attribute whose value, where one is known for it, can be read
unfoldable pub attribute : Field Attribute
attribute = mapped (plain_when PlainParts parts_mark attribute_parts) said

-- its own head, the identifier's and the SET's, whose contents count none
abbrev pub attribute_heads : Attribute → ℕ
attribute_heads a = 3
