-- Names (RFC 5280, 4.1.2.4) without where they lie in memory.
use Rattle.std.specs.Prelude.{ℕ, ◌+◌, sum_by, ◌==◌, ◌||◌, Bool, List, ◌++◌, map, filter, Result, Ok, Err, if◌then◌else◌}
use Rattle.std.specs.List.{flat_map}
use Rattle.std.specs.Slice.Iter.{iter_rest}
use Rattle.std.specs.Str.{bytes_eq, is_utf8}
use Rattle.x509_der.specs.declared.error.BerError.TheVariants as ber
use Rattle.x509_der.specs.Laws.{IsMarkedElement}
use Rattle.x509_der.specs.Leaves.{any, oid}
use Rattle.x509_der.specs.Oid.{oid_bytes}
use Rattle.x509_der.specs.Plan.{◌>>=◌, give, run, run1}
use Rattle.x509_der.specs.Promises.{empty_run}
use Rattle.x509_der.specs.Reading.{Element, element_of}
use Rattle.x509_der.proofs.Marking.{marked}
use Rattle.x509_fields.specs.declared.error.X509Error.{X509Error}
use Rattle.x509_fields.specs.declared.error.X509Error.TheVariants as x509
use Rattle.x509_fields.specs.Errors.{is_x509_memory}
use Rattle.x509_fields.specs.Fields.{Field, named, sequence, set_of, trimmed_sequence, as_x509_renames}
use Rattle.x509_names.specs.declared.name.AttributeTypeAndValue.{AttributeTypeAndValue}
use Rattle.x509_names.specs.declared.name.RelativeDistinguishedName.{RelativeDistinguishedName}
use Rattle.x509_names.specs.declared.name.X509Name.{X509Name}
use Rattle.x509_names.specs.declared.name_iter.AttributeIter.{AttributeIter}
use Rattle.x509_names.specs.declared.name_iter.AttributeByOid.{AttributeByOid}

-- an identifier's octets, and the value
pub record Attribute : Type 0 where
  pub attr_type : List ℕ
  pub attr_value : Element

abbrev pub attribute_of : AttributeTypeAndValue → Attribute
attribute_of a = record { attr_type = oid_bytes a.attr_type; attr_value = element_of a.attr_value }

abbrev pub relative_name_of : RelativeDistinguishedName → List Attribute
relative_name_of r = map attribute_of r.set

-- the bytes that were read, and the relative names
pub record Name : Type 0 where
  pub raw : List ℕ
  pub relative : List (List Attribute)

abbrev pub name_of : X509Name → Name
name_of n = record { raw = n.raw.now; relative = map relative_name_of n.rdn_seq }

abbrev pub attribute_heads : Attribute → ℕ
attribute_heads a = 3

abbrev pub relative_name_heads : List Attribute → ℕ
relative_name_heads r = 1 + sum_by attribute_heads r

abbrev pub name_heads : Name → ℕ
name_heads n = 1 + sum_by relative_name_heads n.relative

-- ---- the grammar

-- AttributeTypeAndValue ::= SEQUENCE { type OBJECT IDENTIFIER, value ANY } (RFC 5280, 4.1.2.4)
unfoldable pub attribute : Field Attribute
attribute = sequence do
  oid ← named x509.InvalidX509Name oid
  any ← named x509.InvalidX509Name any
  give (record { attr_type = oid; attr_value = any })

-- RelativeDistinguishedName ::= SET SIZE (1..MAX) OF AttributeTypeAndValue
unfoldable pub relative_name : Field (List Attribute)
relative_name = set_of (run1 (empty_run x509.NomError) attribute)

-- Name ::= SEQUENCE OF RelativeDistinguishedName; it ends before the first element that is none, and so does its raw window
unfoldable pub name : Field Name
name = trimmed_sequence do
  relative ← run relative_name
  give (λ raw. record { raw = raw; relative = relative })

-- ---- laws

pub attribute_laws : IsMarkedElement is_x509_memory attribute
unfolding attribute
attribute_laws = search (marked, as_x509_renames) depth 40

pub relative_name_laws : IsMarkedElement is_x509_memory relative_name
unfolding relative_name
relative_name_laws = search (marked, as_x509_renames, attribute_laws) depth 40

pub name_laws : IsMarkedElement is_x509_memory name
unfolding name
name_laws = search (marked, as_x509_renames, relative_name_laws) depth 40

-- ---- lists of attributes

-- the attributes of these relative names, in order
abbrev pub attributes_in : List RelativeDistinguishedName → List AttributeTypeAndValue
attributes_in relative = flat_map (λ r. r.set) relative

-- the attributes of this type
abbrev pub with_type : List ℕ → List AttributeTypeAndValue → List AttributeTypeAndValue
with_type id attributes = filter (λ a. bytes_eq (oid_bytes a.attr_type) id) attributes

-- what an iterator still gives
abbrev pub attributes_left : AttributeIter → List AttributeTypeAndValue
attributes_left s = iter_rest s.attributes ++ attributes_in (iter_rest s.relative)

abbrev pub matching_left : AttributeByOid → List AttributeTypeAndValue
matching_left s = with_type (oid_bytes s.oid) (attributes_left s.attributes)

-- ---- a value as a string

-- NumericString, PrintableString, UTF8String and IA5String (X.680, 8.4)
abbrev pub is_plain_string : ℕ → Bool
is_plain_string number = number == 18 || number == 19 || number == 12 || number == 22

abbrev pub utf8_in : List ℕ → Result (List ℕ) X509Error
utf8_in octets = if is_utf8 octets then Ok octets else Err x509.InvalidAttributes

-- by the number of the tag alone
abbrev pub string_in : Element → Result (List ℕ) X509Error
string_in e = if is_plain_string e.header.tag.0 then utf8_in e.contents else Err (x509.Der ber.InvalidTag)
