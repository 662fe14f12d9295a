-- What validators tell of certificates, as C sees it.
use Rattle.std.specs.Prelude.{◌≡◌, ℕ, Bool, ◌&&◌, List, ◌++◌, flat_map}
use Rattle.x509_certs.specs.Certificate.{Certificate}
use Rattle.x509_validators.specs.Extensions.{extensions_messages, are_sound}
use Rattle.x509_validators.specs.Message.{Message}
use Rattle.x509_validators.specs.SignedPart.{signed_part_messages, is_signed_part_sound}
use Rattle.x509_c.specs.Flags.{flag}
use Rattle.x509_c.specs.MessageLines.{message_line}
use Rattle.x509_c.specs.Text.{ShowsText}

abbrev pub message_lines : List Message → List ℕ
message_lines messages = flat_map message_line messages

-- of the structure of a certificate, and then of its extensions
abbrev pub validation_messages : Certificate → List Message
validation_messages c = signed_part_messages c.tbs ++ extensions_messages c.tbs.extensions

abbrev pub is_sound : Certificate → Bool
is_sound c = is_signed_part_sound c.tbs && are_sound c.tbs.extensions

-- the lines of the messages, and whether the certificate is sound
pub record ShowsValidation (out : List ℕ) (told sound : ℕ) (c : Certificate) : Type 0 where
  pub lines : ShowsText out told (message_lines (validation_messages c))
  pub answer : sound ≡ flag (is_sound c)
