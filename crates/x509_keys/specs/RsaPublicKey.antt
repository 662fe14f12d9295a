-- RSAPublicKey ::= SEQUENCE {
--     modulus         INTEGER,  -- n
--     publicExponent  INTEGER   -- e
-- }
-- (RFC 8017, A.1.1)
use Rattle.std.specs.Prelude.{ℕ, ◌&&◌, List, [], ◌∷◌, length, Result, Ok, Err, nat_le, nat_lt, if◌then◌else◌}
use Rattle.std.specs.Int.Digits.{number_from_digits}
use Rattle.x509_der.specs.Laws.{IsMarkedElement}
use Rattle.x509_der.specs.Leaves.{BerPlan, integer, sequence as sequence_contents}
use Rattle.x509_der.specs.Plan.{◌>>=◌, give, container}
use Rattle.x509_der.specs.Primitives.{is_unsigned}
use Rattle.x509_der.specs.Promises.{is_ber_memory}
use Rattle.x509_der.proofs.Marking.{marked}
use Rattle.x509_fields.specs.declared.error.X509Error.{X509Error}
use Rattle.x509_fields.specs.declared.error.X509Error.TheVariants as x509
use Rattle.x509_fields.specs.Errors.{is_x509_memory}
use Rattle.x509_fields.specs.Fields.{Field, named}
use Rattle.x509_keys.specs.declared.rsa_public_key.RSAPublicKey.{RSAPublicKey}
use Rattle.x509_keys.specs.Sizes.{bits_in}

-- ---- the value: the contents of both INTEGERs, as they stand

pub record RsaKey : Type 0 where
  pub modulus : List ℕ
  pub exponent : List ℕ

abbrev pub rsa_key_of : RSAPublicKey → RsaKey
rsa_key_of k = record { modulus = k.modulus.now; exponent = k.exponent.now }

-- ---- the grammar

-- bytes behind the second number are skipped
unfoldable pub two_numbers : BerPlan RsaKey
two_numbers = container sequence_contents do
  modulus ← integer
  exponent ← integer
  give (record { modulus = modulus; exponent = exponent })

-- every refusal is InvalidSPKI
unfoldable pub rsa_public_key : Field RsaKey
rsa_public_key = named x509.InvalidSPKI two_numbers

-- ---- heads

abbrev pub rsa_key_heads : RsaKey → ℕ
rsa_key_heads k = 3

-- ---- laws

pub two_numbers_laws : IsMarkedElement is_ber_memory two_numbers
unfolding two_numbers
two_numbers_laws = search marked depth 40

pub rsa_public_key_laws : IsMarkedElement is_x509_memory rsa_public_key
unfolding rsa_public_key
rsa_public_key_laws = search (marked, two_numbers_laws) depth 20

-- ---- numbers and sizes

-- the exponent: there is an octet, the first one's top bit is clear, and there are at most eight (X.690, 8.3.3)
abbrev pub exponent_number : List ℕ → Result ℕ X509Error
exponent_number octets = if is_unsigned octets && nat_le (length octets) 8 then Ok (number_from_digits 256 octets) else Err x509.InvalidNumber

-- the bits of the modulus behind its first octet, which holds the sign; none where there is no octet, or a number below zero
abbrev pub modulus_size : List ℕ → ℕ
modulus_size [] = 0
modulus_size (sign ∷ octets) = if nat_lt sign 128 then bits_in (length octets) else 0
