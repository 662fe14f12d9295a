-- General names (RFC 5280, 4.2.1.6).
use Rattle.std.specs.Prelude.{◌≡◌, ℕ, ◌+◌, ◌==◌, List, ◌++◌, codes, decimal, Option, Some, None, unwrap_or, Result, Ok, Err, if◌then◌else◌}
use Rattle.std.specs.Option.{option_map}
use Rattle.std.specs.Str.{is_utf8}
use Rattle.x509_der.specs.declared.error.BerError.{BerError}
use Rattle.x509_der.specs.declared.error.BerError.TheVariants as ber
use Rattle.x509_der.specs.declared.error.Err.{Err as Refusal}
use Rattle.x509_der.specs.declared.error.Err.TheVariants.{Error}
use Rattle.x509_der.specs.declared.header.Header.{Header}
use Rattle.x509_der.specs.Hex.{hex_text}
use Rattle.x509_der.specs.Leaves.{any, oid}
use Rattle.x509_der.specs.Oid.{oid_bytes, oid_text}
use Rattle.x509_der.specs.Plan.{Outcome, ◌>>=◌, give, mapped, plain_when, StandsInside, reads_inside, all_behind, to_end}
use Rattle.x509_der.specs.Primitives.{is_context}
use Rattle.x509_der.specs.Reading.{Element, element_of}
use Rattle.x509_fields.specs.declared.error.X509Error.{X509Error}
use Rattle.x509_fields.specs.declared.error.X509Error.TheVariants.{Der}
use Rattle.x509_fields.specs.Fields.{Field, lifted}
use Rattle.x509_names.specs.Names.{Name, name_of, name_heads, name}
use Rattle.x509_names.specs.NameTexts.{shown_name}
use Rattle.x509_general_names.specs.declared.general_name.GeneralName.{GeneralName}
use Rattle.x509_general_names.specs.declared.general_name.GeneralName.TheVariants as variants

-- ---- the value

pub data GeneralNameValue : Type 0 where
  -- an identifier's octets, and the bytes behind it
  OtherName : List ℕ → List ℕ → GeneralNameValue
  RFC822Name : List ℕ → GeneralNameValue
  DNSName : List ℕ → GeneralNameValue
  X400Address : Element → GeneralNameValue
  DirectoryName : Name → GeneralNameValue
  EDIPartyName : Element → GeneralNameValue
  URI : List ℕ → GeneralNameValue
  IPAddress : List ℕ → GeneralNameValue
  RegisteredID : List ℕ → GeneralNameValue
  -- the number of a tag, and the contents
  Invalid : ℕ → List ℕ → GeneralNameValue

abbrev pub general_name_of : GeneralName → GeneralNameValue
general_name_of (variants.OtherName id value) = OtherName (oid_bytes id) value.now
general_name_of (variants.RFC822Name text) = RFC822Name text.now
general_name_of (variants.DNSName text) = DNSName text.now
general_name_of (variants.X400Address address) = X400Address (element_of address)
general_name_of (variants.DirectoryName name) = DirectoryName (name_of name)
general_name_of (variants.EDIPartyName party) = EDIPartyName (element_of party)
general_name_of (variants.URI text) = URI text.now
general_name_of (variants.IPAddress address) = IPAddress address.now
general_name_of (variants.RegisteredID id) = RegisteredID (oid_bytes id)
general_name_of (variants.Invalid tag contents) = Invalid tag.0 contents.now

-- ---- the grammar

-- GeneralName ::= CHOICE {
--     otherName                  [0]  OtherName,
--     rfc822Name                 [1]  IA5String,
--     dNSName                    [2]  IA5String,
--     x400Address                [3]  ORAddress,
--     directoryName              [4]  Name,
--     ediPartyName               [5]  EDIPartyName,
--     uniformResourceIdentifier  [6]  IA5String,
--     iPAddress                  [7]  OCTET STRING,
--     registeredID               [8]  OBJECT IDENTIFIER }
pub data Alternative : Type 0 where
  other_name : Alternative
  rfc822_name : Alternative
  dns_name : Alternative
  x400_address : Alternative
  directory_name : Alternative
  edi_party_name : Alternative
  uniform_resource_identifier : Alternative
  ip_address : Alternative
  registered_id : Alternative
  no_alternative : Alternative

-- by the number of the tag alone
abbrev pub alternative_of : ℕ → Alternative
alternative_of number =
    if number == 0 then other_name
    else if number == 1 then rfc822_name
    else if number == 2 then dns_name
    else if number == 3 then x400_address
    else if number == 4 then directory_name
    else if number == 5 then edi_party_name
    else if number == 6 then uniform_resource_identifier
    else if number == 7 then ip_address
    else if number == 8 then registered_id
    else no_alternative

abbrev pub not_that : Refusal X509Error
not_that = Error (Der ber.BerValueError)

abbrev pub some_or_not : Option GeneralNameValue → Result GeneralNameValue (Refusal X509Error)
some_or_not (Some name) = Ok name
some_or_not None = Err not_that

-- a text in UTF-8; character sets are not looked at
abbrev pub utf8_in : List ℕ → Option (List ℕ)
utf8_in octets = if is_utf8 octets then Some octets else None

abbrev pub text : (List ℕ → GeneralNameValue) → Field GeneralNameValue
text make = mapped all_behind (λ octets. some_or_not (option_map make (utf8_in octets)))

-- the contents of an element with this header, to their end
unfoldable pub alternative : Alternative → Header → Field GeneralNameValue
-- OtherName ::= SEQUENCE { type-id OBJECT IDENTIFIER, value [0] EXPLICIT ANY DEFINED BY type-id }
alternative other_name h = do
  id ← lifted oid
  value ← all_behind
  give (OtherName id value)
alternative rfc822_name h = text (λ octets. RFC822Name octets)
alternative dns_name h = text (λ octets. DNSName octets)
alternative x400_address h = do
  contents ← all_behind
  give (X400Address (record { header = h; contents = contents }))
alternative directory_name h = to_end not_that do
  subject ← name
  give (DirectoryName subject)
alternative edi_party_name h = do
  contents ← all_behind
  give (EDIPartyName (record { header = h; contents = contents }))
alternative uniform_resource_identifier h = text (λ octets. URI octets)
alternative ip_address h = do
  octets ← all_behind
  give (IPAddress octets)
alternative registered_id h = do
  octets ← all_behind
  give (RegisteredID octets)
alternative no_alternative h = mapped all_behind (λ octets. some_or_not None)

-- the grammar of an element's contents
abbrev pub alternative_in : Element → Field GeneralNameValue
alternative_in e = alternative (alternative_of e.header.tag.0) e.header

abbrev pub value_read : {F A : Type 0} → Outcome F A → Option A
value_read (Ok x) = Some x.1
value_read (Err r) = None

-- what the contents are read as, if they can be
abbrev pub name_inside : Element → Option GeneralNameValue
name_inside e = value_read ((alternative_in e).read e.contents)

abbrev pub named : Element → GeneralNameValue
named e = unwrap_or (name_inside e) (Invalid e.header.tag.0 e.contents)

abbrev pub only_context : Element → Result Element (Refusal X509Error)
only_context e = if is_context e.header.class then Ok e else Err (Error (Der ber.InvalidTag))

-- an element of context class
unfoldable pub context_element : Field Element
context_element = mapped (lifted any) only_context

-- An element of context class whose contents can't be read is Invalid; plainly, they can.
unfoldable pub general_name : Field GeneralNameValue
general_name = mapped (plain_when (λ e. StandsInside (alternative_in e) e.contents) (λ e. reads_inside (alternative_in e) e.contents) context_element) (λ e. Ok (named e))

-- the general name of a whole element
abbrev pub general_name_in : Element → Result GeneralNameValue BerError
general_name_in e = if is_context e.header.class then Ok (named e) else Err ber.InvalidTag

-- What a function returned is this, unless memory ran out.
abbrev pub GivesName : Result GeneralName BerError → Result GeneralNameValue BerError → Type 0
GivesName (Ok value) wanted = wanted ≡ Ok (general_name_of value)
GivesName (Err ber.OutOfMemory) wanted = Unit {0}
GivesName (Err kind) wanted = wanted ≡ Err kind

-- ---- heads

-- its own head, an identifier's before the bytes of another name, and those of a directory name; other contents count none
abbrev pub general_name_heads : GeneralNameValue → ℕ
general_name_heads (OtherName id value) = 2
general_name_heads (DirectoryName name) = 1 + name_heads name
general_name_heads _ = 1

-- ---- text

-- pairs of hex digits
abbrev pub hex_pairs : List ℕ → List ℕ
hex_pairs octets = hex_text (codes ":") octets

-- what `{}` writes
abbrev pub general_name_text : GeneralNameValue → List ℕ
general_name_text (OtherName id value) = codes "OtherName(" ++ oid_text id ++ codes ", [...])"
general_name_text (RFC822Name text) = codes "RFC822Name(" ++ text ++ codes ")"
general_name_text (DNSName text) = codes "DNSName(" ++ text ++ codes ")"
general_name_text (X400Address address) = codes "X400Address(<unparsed>)"
general_name_text (DirectoryName name) = codes "DirectoryName(" ++ shown_name name ++ codes ")"
general_name_text (EDIPartyName party) = codes "EDIPartyName(<unparsed>)"
general_name_text (URI text) = codes "URI(" ++ text ++ codes ")"
general_name_text (IPAddress address) = codes "IPAddress(" ++ hex_pairs address ++ codes ")"
general_name_text (RegisteredID id) = codes "RegisteredID(" ++ oid_text id ++ codes ")"
general_name_text (Invalid number contents) = codes "Invalid(tag=" ++ decimal number ++ codes ", data=" ++ hex_pairs contents ++ codes ")"
