-- What keys are for, by the identifier of their algorithm, and the curves that keys name.
use Rattle.std.specs.Prelude.{ℕ, List, [], ◌∷◌, codes, Option, unwrap_or}
use Rattle.x509_names.specs.Objects.{us}
use Rattle.x509_keys.specs.declared.key_algorithm.KeyAlgorithm.{KeyAlgorithm}
use Rattle.x509_keys.specs.declared.key_algorithm.KeyAlgorithm.TheVariants as keys
use Rattle.x509_keys.specs.declared.key_algorithm.NamedCurve.{NamedCurve}
use Rattle.x509_keys.specs.declared.key_algorithm.NamedCurve.TheVariants as curves
use Rattle.x509_keys.specs.KeyKinds.{rsa_encryption, ec_public_key, dsa, gost_2001, gost_2012_256, gost_2012_512}
use Rattle.x509_keys.specs.Rows.{value_in}
use Rattle.x509_keys.specs.SignatureKinds.{rsassa_pss, ed25519}

-- id-X25519, 1.3.101.110 (RFC 8410, 3)
abbrev pub x25519 : List ℕ
x25519 = 0x2b ∷ 0x65 ∷ 0x6e ∷ []

-- id-X448, 1.3.101.111 (RFC 8410, 3)
abbrev pub x448 : List ℕ
x448 = 0x2b ∷ 0x65 ∷ 0x6f ∷ []

-- id-Ed448, 1.3.101.113 (RFC 8410, 3)
abbrev pub ed448 : List ℕ
ed448 = 0x2b ∷ 0x65 ∷ 0x71 ∷ []

abbrev pub key_algorithms : List (List ℕ × KeyAlgorithm)
key_algorithms =
    (rsa_encryption, keys.Rsa) ∷
    (rsassa_pss, keys.RsaPss) ∷
    (ec_public_key, keys.Ec) ∷
    (x25519, keys.X25519) ∷
    (x448, keys.X448) ∷
    (ed25519, keys.Ed25519) ∷
    (ed448, keys.Ed448) ∷
    (dsa, keys.Dsa) ∷
    (gost_2001, keys.GostR3410) ∷
    (gost_2012_256, keys.GostR3410_2012_256) ∷
    (gost_2012_512, keys.GostR3410_2012_512) ∷
    []

-- Unknown where the identifier has no row
unfoldable pub key_algorithm_of : List ℕ → KeyAlgorithm
key_algorithm_of octets = unwrap_or (value_in key_algorithms octets) keys.Unknown

abbrev pub key_algorithm_word : KeyAlgorithm → List ℕ
key_algorithm_word keys.Rsa = codes "rsa"
key_algorithm_word keys.RsaPss = codes "rsa_pss"
key_algorithm_word keys.Ec = codes "ec"
key_algorithm_word keys.X25519 = codes "x25519"
key_algorithm_word keys.X448 = codes "x448"
key_algorithm_word keys.Ed25519 = codes "ed25519"
key_algorithm_word keys.Ed448 = codes "ed448"
key_algorithm_word keys.Dsa = codes "dsa"
key_algorithm_word keys.GostR3410 = codes "gost_r3410_2001"
key_algorithm_word keys.GostR3410_2012_256 = codes "gost_r3410_2012_256"
key_algorithm_word keys.GostR3410_2012_512 = codes "gost_r3410_2012_512"
key_algorithm_word keys.Unknown = codes "unknown"

-- ansi-X9-62 curves, prime, 1.2.840.10045.3.1 (RFC 5480, 2.1.1.1)
abbrev prime_curve : ℕ → List ℕ
prime_curve n = us (0xce ∷ 0x3d ∷ 0x03 ∷ 0x01 ∷ n ∷ [])

-- certicom curves, 1.3.132.0 (RFC 5480, 2.1.1.1; SEC 2, A.2)
abbrev certicom_curve : ℕ → List ℕ
certicom_curve n = 0x2b ∷ 0x81 ∷ 0x04 ∷ 0x00 ∷ n ∷ []

-- versionOne, 1.3.36.3.3.2.8.1.1 (RFC 5639, 4.1)
abbrev brainpool_curve : ℕ → List ℕ
brainpool_curve n = 0x2b ∷ 0x24 ∷ 0x03 ∷ 0x03 ∷ 0x02 ∷ 0x08 ∷ 0x01 ∷ 0x01 ∷ n ∷ []

abbrev pub named_curves : List (List ℕ × NamedCurve)
named_curves =
    (prime_curve 0x01, curves.Secp192r1) ∷
    (certicom_curve 0x21, curves.Secp224r1) ∷
    (prime_curve 0x07, curves.Secp256r1) ∷
    (certicom_curve 0x22, curves.Secp384r1) ∷
    (certicom_curve 0x23, curves.Secp521r1) ∷
    (certicom_curve 0x0a, curves.Secp256k1) ∷
    (brainpool_curve 0x07, curves.BrainpoolP256r1) ∷
    (brainpool_curve 0x0b, curves.BrainpoolP384r1) ∷
    (brainpool_curve 0x0d, curves.BrainpoolP512r1) ∷
    []

unfoldable pub named_curve_of : List ℕ → Option NamedCurve
named_curve_of octets = value_in named_curves octets

abbrev pub named_curve_word : NamedCurve → List ℕ
named_curve_word curves.Secp192r1 = codes "secp192r1"
named_curve_word curves.Secp224r1 = codes "secp224r1"
named_curve_word curves.Secp256r1 = codes "secp256r1"
named_curve_word curves.Secp384r1 = codes "secp384r1"
named_curve_word curves.Secp521r1 = codes "secp521r1"
named_curve_word curves.Secp256k1 = codes "secp256k1"
named_curve_word curves.BrainpoolP256r1 = codes "brainpoolP256r1"
named_curve_word curves.BrainpoolP384r1 = codes "brainpoolP384r1"
named_curve_word curves.BrainpoolP512r1 = codes "brainpoolP512r1"

-- the bits of a coordinate
abbrev pub field_bits : NamedCurve → ℕ
field_bits curves.Secp192r1 = 192
field_bits curves.Secp224r1 = 224
field_bits curves.Secp256r1 = 256
field_bits curves.Secp384r1 = 384
field_bits curves.Secp521r1 = 521
field_bits curves.Secp256k1 = 256
field_bits curves.BrainpoolP256r1 = 256
field_bits curves.BrainpoolP384r1 = 384
field_bits curves.BrainpoolP512r1 = 512
