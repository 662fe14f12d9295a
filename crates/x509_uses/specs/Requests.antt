-- What a certification request asks for.
use Rattle.std.specs.Prelude.{Bool, true, false, List, All, IsTrue, IfSome}
use Rattle.x509_extensions.specs.declared.parsed.ParsedExtension.{ParsedExtension}
use Rattle.x509_extensions.specs.declared.parsed.ParsedExtension.TheVariants as values
use Rattle.x509_requests.specs.Requested.{first_requested}
use Rattle.x509_requests.specs.declared.cri_attribute.X509CriAttribute.{X509CriAttribute}
use Rattle.x509_requests.specs.declared.cri_attribute.ParsedCriAttribute.{ParsedCriAttribute}
use Rattle.x509_requests.specs.declared.cri_attribute.ParsedCriAttribute.TheVariants as attributes

-- an attribute that asks for extensions (RFC 2985, 5.4.2)
abbrev pub asks_extensions : ParsedCriAttribute → Bool
asks_extensions (attributes.ExtensionRequest _) = true
asks_extensions _ = false

-- a key usage, an extended one, or alternative names of the subject
abbrev pub is_usual : ParsedExtension → Bool
is_usual (values.KeyUsage _) = true
is_usual (values.ExtendedKeyUsage _) = true
is_usual (values.SubjectAlternativeName _) = true
is_usual _ = false

-- each attribute asks for extensions, and the first of them for usual ones alone
abbrev pub IsModest : List X509CriAttribute → Type 0
IsModest xs = All (λ a. IsTrue (asks_extensions a.parsed_attribute)) xs × IfSome (first_requested xs) (λ asked. All (λ x. IsTrue (is_usual x)) asked)
