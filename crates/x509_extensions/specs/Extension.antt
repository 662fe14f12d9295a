-- One extension (RFC 5280, 4.2): its value, its grammar at both depths, its heads, its laws.
use Rattle.std.specs.Prelude.{refl, ℕ, List, Bool, false, length, unwrap_or, Ok, ◌+◌, true, sum_by, if◌then◌else◌}
use Rattle.x509_der.specs.declared.error.Err.TheVariants.{Error}
use Rattle.x509_der.specs.Plan.{◌>>=◌, give, soft, universal, or_refuse, mapped, plain_when}
use Rattle.x509_der.specs.Leaves.{oid, bool_loose, octets}
use Rattle.x509_fields.specs.declared.error.X509Error.TheVariants as x509
use Rattle.x509_fields.specs.Fields.{Field, lifted, sequence, as_x509_renames}
use Rattle.x509_extensions.specs.Parsed.{Unparsed, Parsed, parsed_of, parsed_value, PlainValue, value_marks, value_told_plain}
use Rattle.x509_extensions.specs.ValueBytes.{GivesBytes, renamed_gives, container_gives, then_gives, contents_give, give_gives}
use Rattle.x509_der.specs.Laws.{IsMarkedElement}
use Rattle.x509_der.proofs.Marked.{Tells}
use Rattle.x509_der.proofs.Rulesets.{laws}
use Rattle.x509_der.proofs.Marking.{marked, mapped_marked, plain_when_marked}
use Rattle.x509_fields.specs.Errors.{is_x509_memory}
use Rattle.x509_der.specs.Oid.{oid_bytes}
use Rattle.x509_extensions.specs.declared.extension.X509Extension.{X509Extension}
use Rattle.x509_extensions.specs.declared.parser.Envelope.{Envelope}

-- ---- the value

-- the oid, whether a user must know it, the bytes of its value, and what they say
pub record Extension : Type 0 where
  pub oid : List ℕ
  pub critical : Bool
  pub value : List ℕ
  pub parsed : Parsed

abbrev pub extension_of : X509Extension → Extension
extension_of e = record { oid = oid_bytes e.oid; critical = e.critical; value = e.value.now; parsed = parsed_of e.parsed_extension }

-- the same of an envelope, whose value isn't looked at
abbrev pub envelope_of : Envelope → Extension
envelope_of e = record { oid = oid_bytes e.oid; critical = e.critical; value = e.value.now; parsed = Unparsed }

-- ---- depth

abbrev pub with_parsed : Extension → Parsed → Extension
with_parsed e p = record { oid = e.oid; critical = e.critical; value = e.value; parsed = p }

-- Deep: what the value says stands beside it. Shallow: values are not looked at.
abbrev pub at_depth : Bool → Extension → Extension
at_depth true e = with_parsed e (parsed_value e.oid e.value)
at_depth false e = with_parsed e Unparsed

-- ---- the grammar

-- Extension ::= SEQUENCE { extnID OBJECT IDENTIFIER, critical BOOLEAN DEFAULT FALSE, extnValue OCTET STRING }.
-- The BOOLEAN is read by the basic rules, as many writers spell it so; plainly it is a BOOLEAN.
unfoldable pub envelope_fields : Field Extension
envelope_fields = sequence do
  oid ← lifted oid
  critical ← soft (universal 1) (lifted bool_loose)
  value ← lifted octets
  give (record { oid = oid; critical = unwrap_or critical false; value = value; parsed = Unparsed })

unfoldable pub envelope : Field Extension
envelope = or_refuse (Error x509.InvalidExtensions) envelope_fields

-- a value that is looked at, plainly
abbrev pub StandsAtDepth : Bool → Extension → Type 0
StandsAtDepth true e = PlainValue e.oid e.value
StandsAtDepth false e = Unit {0}

abbrev pub marks_at_depth : Bool → Extension → Bool
marks_at_depth true e = value_marks e.oid e.value
marks_at_depth false e = true

-- The envelope, with what the value in it says where that is wanted: it refuses nothing. Plainly, so is what the value says.
unfoldable pub extension : Bool → Field Extension
extension deep = mapped (plain_when (StandsAtDepth deep) (marks_at_depth deep) envelope) (λ e. Ok (at_depth deep e))

-- ---- sizes

-- the lengths of the values of these extensions
abbrev pub value_bytes : List Extension → ℕ
value_bytes xs = sum_by (λ e. length e.value) xs

-- its own head, the identifier's, the value's, and that of the mark where it is critical; heads inside the value count none
abbrev pub extension_heads : Extension → ℕ
extension_heads e = 3 + (if e.critical then 1 else 0)

-- ---- laws

pub envelope_fields_laws : IsMarkedElement is_x509_memory envelope_fields
unfolding envelope_fields
envelope_fields_laws = search (marked, as_x509_renames) depth 60

pub envelope_laws : IsMarkedElement is_x509_memory envelope
unfolding envelope
envelope_laws = search (marked, envelope_fields_laws)

-- the value in an envelope is bytes
envelope_bytes : GivesBytes (λ e. e.value) envelope
unfolding envelope envelope_fields
envelope_bytes = search (renamed_gives, container_gives, then_gives, contents_give, give_gives, laws, as_x509_renames) depth 40

depth_told : (deep : Bool) → Tells (StandsAtDepth deep) (marks_at_depth deep) envelope
depth_told true place e next k is = value_told_plain e.oid e.value (envelope_bytes.bytes place e next k is)
depth_told false place e next k is = (λ m. tt, λ h. refl)

pub extension_laws : (deep : Bool) → IsMarkedElement is_x509_memory (extension deep)
unfolding extension
extension_laws deep =
    let looked = plain_when_marked is_x509_memory (StandsAtDepth deep) (marks_at_depth deep) envelope envelope_laws (depth_told deep) in
    mapped_marked is_x509_memory (plain_when (StandsAtDepth deep) (marks_at_depth deep) envelope) (λ e. Ok (at_depth deep e)) looked (λ e r never. absurd cc)
