-- Whether the values of extensions could be read (RFC 5280, 4.2).
use Rattle.std.specs.Prelude.{ℕ, Bool, not, List, [], ◌∷◌, ◌++◌, codes, Option, Some, None}
use Rattle.std.specs.Option.{is_some}
use Rattle.x509_der.specs.declared.error.BerError.{BerError}
use Rattle.x509_der.specs.declared.error.Err.{Err as Refusal}
use Rattle.x509_der.specs.Oid.{oid_text}
use Rattle.x509_der.specs.Words.{refusal_word, ber_word}
use Rattle.x509_extensions.specs.Extension.{Extension}
use Rattle.x509_extensions.specs.Parsed.{Parsed, is_unsupported, error_in}
use Rattle.x509_validators.specs.Message.{Message, error, warning_if}

-- by the identifier and what the value says: no reader is known
unfoldable pub unsupported_warnings : List ℕ → Parsed → List Message
unsupported_warnings id value = warning_if (is_unsupported value) (codes "Unsupported extension " ++ oid_text id)

-- the value was refused for this reason
unfoldable pub refusal_error : List ℕ → Refusal BerError → List Message
refusal_error id e = error (codes "Parse error in extension " ++ oid_text id ++ codes ": " ++ refusal_word ber_word e) ∷ []

unfoldable pub refusal_errors : List ℕ → Option (Refusal BerError) → List Message
refusal_errors id None = []
refusal_errors id (Some e) = refusal_error id e

unfoldable pub reading_messages : Extension → List Message
reading_messages e = unsupported_warnings e.oid e.parsed ++ refusal_errors e.oid (error_in e.parsed)

abbrev pub is_readable : Extension → Bool
is_readable e = not (is_some (error_in e.parsed))
