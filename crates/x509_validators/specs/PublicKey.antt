-- What is wrong with the key of a subject (RFC 5280, 4.1.2.7).
use Rattle.std.specs.Prelude.{ℕ, Bool, true, false, List, [], ◌∷◌, codes, nat_le, Result, Ok, Err}
use Rattle.x509_fields.specs.declared.error.X509Error.{X509Error}
use Rattle.x509_keys.specs.PublicKey.{Key, RSA, Unknown}
use Rattle.x509_keys.specs.RsaPublicKey.{RsaKey}
use Rattle.x509_validators.specs.Message.{Message}
use Rattle.x509_validators.specs.Rules.{Row, error_where, told, warning_where}

-- the octets of an INTEGER begin with a top bit that is set (X.690, 8.3.3)
unfoldable pub is_negative : List ℕ → Bool
is_negative [] = false
is_negative (first ∷ _) = nat_le 128 first

abbrev pub rsa_rules : RsaKey → List Row
rsa_rules key =
    warning_where (is_negative key.modulus) (codes "Public key: (RSA) modulus is negative")
    ∷ warning_where (is_negative key.exponent) (codes "Public key: (RSA) exponent is negative") ∷ []

unfoldable pub known_rules : Key → List Row
known_rules (RSA key) = rsa_rules key
known_rules (Unknown _) = warning_where true (codes "Unknown public key type") ∷ []
known_rules _ = []

-- by the key that the key bits hold, or why they hold none
unfoldable pub key_rules : Result Key X509Error → List Row
key_rules (Ok key) = known_rules key
key_rules (Err _) = error_where true (codes "Invalid public key") ∷ []

abbrev pub key_messages : Result Key X509Error → List Message
key_messages key = told (key_rules key)

unfoldable pub is_key : Result Key X509Error → Bool
is_key (Ok _) = true
is_key (Err _) = false
