-- What is wrong with the strings of a name (RFC 5280, 4.1.2.4).
use Rattle.std.specs.Prelude.{ℕ, Bool, not, ◌&&◌, ◌||◌, ◌==◌, List, ◌++◌, codes}
use Rattle.std.specs.List.{flat_map}
use Rattle.x509_der.specs.Oid.{oid_text}
use Rattle.x509_der.specs.Reading.{Element}
use Rattle.x509_names.specs.Names.{Attribute, Name}
use Rattle.x509_validators.specs.Message.{Message, warning_if}
use Rattle.x509_validators.specs.Charset.{are_ascii}

-- PrintableString and IA5String (X.680, 8.4)
abbrev pub is_ascii_string : ℕ → Bool
is_ascii_string number = number == 19 || number == 22

abbrev pub is_out_of_charset : Element → Bool
is_out_of_charset e = is_ascii_string e.header.tag.0 && not (are_ascii e.contents)

unfoldable pub attribute_warnings : Attribute → List Message
attribute_warnings a = warning_if (is_out_of_charset a.attr_value) (codes "Invalid charset in X.509 Name, component " ++ oid_text a.attr_type)

-- those of each attribute of each relative name
abbrev pub name_warnings : Name → List Message
name_warnings n = flat_map (λ r. flat_map attribute_warnings r) n.relative
