-- What is wrong with the other names of a subject (RFC 5280, 4.2.1.6).
use Rattle.std.specs.Prelude.{ℕ, not, List, [], ◌++◌, codes}
use Rattle.std.specs.List.{flat_map}
use Rattle.x509_general_names.specs.GeneralName.{GeneralNameValue, RFC822Name, DNSName}
use Rattle.x509_extensions.specs.Extension.{Extension}
use Rattle.x509_extensions.specs.Parsed.{Parsed, SubjectAlternativeName}
use Rattle.x509_validators.specs.Message.{Message, warning_if}
use Rattle.x509_validators.specs.Charset.{are_ascii}

-- the text is to be an IA5String
unfoldable pub text_warnings : List ℕ → List Message
text_warnings text = warning_if (not (are_ascii text)) (codes "Invalid charset in 'SAN' entry '" ++ text ++ codes "'")

unfoldable pub general_name_warnings : GeneralNameValue → List Message
general_name_warnings (RFC822Name text) = text_warnings text
general_name_warnings (DNSName text) = text_warnings text
general_name_warnings _ = []

abbrev pub names_warnings : List GeneralNameValue → List Message
names_warnings names = flat_map general_name_warnings names

-- where the value is such names
unfoldable pub alternative_name_warnings : Parsed → List Message
alternative_name_warnings (SubjectAlternativeName names) = names_warnings names
alternative_name_warnings _ = []

abbrev pub names_in : Extension → List Message
names_in e = alternative_name_warnings e.parsed
