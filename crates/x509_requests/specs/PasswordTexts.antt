-- The text of a challenge password (RFC 2985, 5.4.1).
use Rattle.std.specs.Prelude.{ℕ, ◌+◌, ◌*◌, ◌==◌, ◌&&◌, ◌||◌, not, nat_lt, nat_le, Bool, List, [], ◌∷◌, ◌++◌, Option, Some, None, encode_utf8, if◌then◌else◌}
use Rattle.std.specs.Option.{option_map}
use Rattle.x509_der.specs.Laws.{IsMarkedElement}
use Rattle.x509_der.specs.Leaves.{BerPlan, element, valued}
use Rattle.x509_der.specs.Primitives.{ValueOrBad, as_refusal, bad_value, some_or_bad, is_universal}
use Rattle.x509_der.specs.Promises.{is_ber_memory}
use Rattle.x509_der.specs.Reading.{Element, strict}
use Rattle.x509_der.proofs.Marking.{marked, mapped_marked, element_marked}
use Rattle.x509_der.proofs.WantOfMemory.{kind_refused}
use Rattle.x509_fields.specs.declared.error.X509Error.TheVariants as x509
use Rattle.x509_fields.specs.Errors.{is_x509_memory}
use Rattle.x509_fields.specs.Fields.{Field, named}
use Rattle.x509_names.specs.NameTexts.{utf8_text, utf16_text}

-- whether a number is a character of Unicode, and no surrogate
abbrev pub is_character : ℕ → Bool
is_character n = nat_lt n 0xD800 || (nat_le 0xE000 n && nat_le n 0x10FFFF)

abbrev pub put_before : ℕ → Option (List ℕ) → Option (List ℕ)
put_before n text = if is_character n then option_map (λ more. encode_utf8 n ++ more) text else None

-- characters of four octets, the most significant one first (UniversalString: X.680, 41); none where one is none
unfoldable pub utf32_text : List ℕ → Option (List ℕ)
utf32_text [] = Some []
utf32_text (a ∷ b ∷ c ∷ d ∷ octets) = put_before (((a * 256 + b) * 256 + c) * 256 + d) (utf32_text octets)
utf32_text _ = None

-- by the number of the tag (X.680, 8.4): UTF8String, PrintableString and T61String as UTF-8, BMPString and UniversalString
abbrev pub password_text : ℕ → List ℕ → Option (List ℕ)
password_text number octets =
    if number == 12 || number == 19 || number == 20 then utf8_text octets
    else if number == 30 then utf16_text octets
    else if number == 28 then utf32_text octets
    else None

-- DirectoryString ::= CHOICE { teletexString, printableString, universalString, utf8String, bmpString } (RFC 5280, 4.1.2.4)
abbrev pub password_value : Element → ValueOrBad (List ℕ)
password_value e = if is_universal e.header.class && not e.header.constructed then some_or_bad (password_text e.header.tag.0 e.contents) else bad_value

unfoldable pub password_element : BerPlan (List ℕ)
password_element = valued strict password_value

-- the text of a password, in UTF-8
unfoldable pub password : Field (List ℕ)
password = named x509.InvalidAttributes password_element

pub password_element_laws : IsMarkedElement is_ber_memory password_element
unfolding password_element
password_element_laws = mapped_marked is_ber_memory (element strict) (λ e. as_refusal (password_value e)) (element_marked strict) (λ e r x. kind_refused (password_value e) r x)

pub password_laws : IsMarkedElement is_x509_memory password
unfolding password
password_laws = search (marked, password_element_laws)
