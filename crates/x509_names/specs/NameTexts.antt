-- The text of a name.
use Rattle.std.specs.Prelude.{◌≡◌, ℕ, ◌+◌, ◌*◌, ◌%◌, ◌==◌, ◌&&◌, ◌||◌, Bool, not, List, [], ◌∷◌, ◌++◌, length, map, fold, codes, Option, Some, None, is_some, Result, Ok, Err, ◌⊎◌, unwrap_or, encode_utf8_all, if◌then◌else◌}
use Rattle.std.specs.Char.Utf16.{utf16_lossy_chars, has_unpaired_surrogate, is_high_surrogate, is_low_surrogate, surrogate_pair_char}
use Rattle.std.specs.List.{list_all}
use Rattle.std.specs.Option.{option_map}
use Rattle.std.specs.Str.{is_utf8}
use Rattle.hex.specs.Hex.{encode_upper}
use Rattle.x509_der.specs.Oid.{oid_debug_text}
use Rattle.x509_der.specs.Reading.{Element}
use Rattle.x509_fields.specs.declared.error.X509Error.{X509Error}
use Rattle.x509_fields.specs.declared.error.X509Error.TheVariants as x509
use Rattle.x509_names.specs.Names.{Attribute, Name}
use Rattle.x509_names.specs.Objects.{registered_name}
use Rattle.x509_names.specs.declared.registry.OidRegistry.{OidRegistry}
use Rattle.x509_names.specs.Registry.{name_by}

-- ---- values

-- the types whose contents are taken as UTF-8 (numbers of X.680, 8.4): ObjectDescriptor, UTF8String, NumericString, PrintableString,
-- T61String, VideotexString, IA5String, GraphicString, VisibleString, GeneralString
abbrev pub is_utf8_type : ℕ → Bool
is_utf8_type number =
    number == 7 || number == 12 || number == 18 || number == 19 || number == 20
    || number == 21 || number == 22 || number == 25 || number == 26 || number == 27

abbrev pub is_bmp_type : ℕ → Bool
is_bmp_type number = number == 30

abbrev pub utf8_text : List ℕ → Option (List ℕ)
utf8_text octets = if is_utf8 octets then Some octets else None

-- units of two octets, the more significant one first
abbrev pub units : List ℕ → List ℕ
units (high ∷ low ∷ octets) = (256 * high + low) ∷ units octets
units _ = []

-- whole units, each surrogate with its partner
abbrev pub is_utf16 : List ℕ → Bool
is_utf16 octets = length octets % 2 == 0 && not (has_unpaired_surrogate (units octets))

-- where each surrogate has its partner, `utf16_lossy_chars` are the characters that the units spell
abbrev pub utf16_text : List ℕ → Option (List ℕ)
utf16_text octets = if is_utf16 octets then Some (encode_utf8_all (utf16_lossy_chars (units octets))) else None

-- the character of two units that are a high surrogate and a low one, the high one first
abbrev pub pair_char : ℕ → ℕ → Option ℕ
pair_char high low = if is_high_surrogate high && is_low_surrogate low then Some (surrogate_pair_char high low) else None

-- by the number of the tag alone; what is no text is shown in upper-case hex
abbrev pub value_text : Element → Option (List ℕ)
value_text e =
    if is_utf8_type e.header.tag.0 then utf8_text e.contents
    else if is_bmp_type e.header.tag.0 then utf16_text e.contents
    else Some (encode_upper e.contents)

-- `#` and upper-case hex. A value that has no string is shown so in names (RFC 4514, section 2.4), there with its header
abbrev pub octets_text : List ℕ → List ℕ
octets_text octets = codes "#" ++ encode_upper octets

-- the text of a value, else its contents
abbrev pub lossy_value_text : Element → List ℕ
lossy_value_text e = unwrap_or (value_text e) (octets_text e.contents)

-- ---- attributes and names

-- what an attribute type is called, else the identifier itself
abbrev pub type_text : (List ℕ → Option (List ℕ)) → List ℕ → List ℕ
type_text called id = unwrap_or (called id) (oid_debug_text id)

abbrev pub attribute_text : (List ℕ → Option (List ℕ)) → Attribute → Option (List ℕ)
attribute_text called a = option_map (λ value. type_text called a.attr_type ++ codes "=" ++ value) (value_text a.attr_value)

-- one more text, behind a separator exactly where the text so far is not empty
abbrev pub joined : List ℕ → List ℕ → List ℕ → List ℕ
joined separator so_far text = if length so_far == 0 then text else so_far ++ separator ++ text

-- all of them, in order
abbrev pub join : List ℕ → List (List ℕ) → List ℕ
join separator texts = fold (joined separator) [] texts

-- the values, if none is missing
abbrev pub all_some : {A : Type 0} → List (Option A) → Option (List A)
all_some [] = Some []
all_some (None ∷ xs) = None
all_some (Some x ∷ xs) = option_map (λ ys. x ∷ ys) (all_some xs)

abbrev pub relative_name_text : (List ℕ → Option (List ℕ)) → List Attribute → Option (List ℕ)
relative_name_text called attributes = option_map (join (codes " + ")) (all_some (map (attribute_text called) attributes))

-- whether each value has a text
abbrev pub have_texts : List Attribute → Bool
have_texts attributes = list_all (λ a. is_some (value_text a.attr_value)) attributes

-- the text where types are called so; none where the text of a value is bad
abbrev pub name_text : (List ℕ → Option (List ℕ)) → Name → Option (List ℕ)
name_text called n = option_map (join (codes ", ")) (all_some (map (relative_name_text called) n.relative))

-- the same, where a value without a text is shown by its contents
abbrev pub lossy_attribute_text : (List ℕ → Option (List ℕ)) → Attribute → List ℕ
lossy_attribute_text called a = type_text called a.attr_type ++ codes "=" ++ lossy_value_text a.attr_value

abbrev pub lossy_relative_name_text : (List ℕ → Option (List ℕ)) → List Attribute → List ℕ
lossy_relative_name_text called attributes = join (codes " + ") (map (lossy_attribute_text called) attributes)

abbrev pub lossy_name_text : (List ℕ → Option (List ℕ)) → Name → List ℕ
lossy_name_text called n = join (codes ", ") (map (lossy_relative_name_text called) n.relative)

-- what `{}` writes: a type by its abbreviation, else by its short name
abbrev pub shown_name : Name → List ℕ
shown_name n = unwrap_or (name_text registered_name n) (codes "<X509Error: Invalid X.509 name>")

-- what types are called by a registry: the abbreviation, else its short name there; with none, what is known here
abbrev pub called_by : Option OidRegistry → List ℕ → Option (List ℕ)
called_by None = registered_name
called_by (Some registry) = name_by registry

-- What a function returned, seen by view, is this text, or InvalidAttributes where there is none, unless memory ran out.
abbrev pub IsText : {X : Type 0} → (X → List ℕ) → Option (List ℕ) → Result X X509Error → Type 0
IsText view text (Ok x) = text ≡ Some (view x)
IsText view text (Err e) = (e ≡ x509.OutOfMemory) ⊎ ((e ≡ x509.InvalidAttributes) × (text ≡ None))
