-- Public keys (RFC 5280, 4.1.2.7), and what the key bits of an algorithm hold.
use Rattle.std.specs.Prelude.{◌≡◌, ℕ, List, length, Result, Ok, Err, IfOk, IfErr}
use Rattle.x509_der.specs.Leaves.{integer, octets}
use Rattle.x509_der.specs.Plan.{Outcome, ◌>>=◌, give, all_behind}
use Rattle.x509_der.specs.Reading.{Gives}
use Rattle.x509_fields.specs.declared.error.X509Error.{X509Error}
use Rattle.x509_fields.specs.declared.error.X509Error.TheVariants as x509
use Rattle.x509_fields.specs.Fields.{Field, named}
use Rattle.x509_keys.specs.declared.key_kind.KeyKind.{KeyKind}
use Rattle.x509_keys.specs.declared.key_kind.KeyKind.TheVariants as kinds
use Rattle.x509_keys.specs.declared.public_key.PublicKey.{PublicKey}
use Rattle.x509_keys.specs.declared.public_key.PublicKey.TheVariants as variants
use Rattle.x509_keys.specs.EcPoint.{point_bytes, point_size}
use Rattle.x509_keys.specs.KeyInfo.{KeyInfo}
use Rattle.x509_keys.specs.KeyKinds.{kind_of}
use Rattle.x509_keys.specs.RsaPublicKey.{RsaKey, rsa_key_of, modulus_size, rsa_public_key}
use Rattle.x509_keys.specs.Sizes.{bits_in}

-- ---- the value

pub data Key : Type 0 where
  RSA : RsaKey → Key
  EC : List ℕ → Key
  DSA : List ℕ → Key
  GostR3410 : List ℕ → Key
  GostR3410_2012 : List ℕ → Key
  Unknown : List ℕ → Key

abbrev pub public_key_of : PublicKey → Key
public_key_of (variants.RSA key) = RSA (rsa_key_of key)
public_key_of (variants.EC point) = EC (point_bytes point)
public_key_of (variants.DSA y) = DSA y.now
public_key_of (variants.GostR3410 y) = GostR3410 y.now
public_key_of (variants.GostR3410_2012 y) = GostR3410_2012 y.now
public_key_of (variants.Unknown bits) = Unknown bits.now

-- ---- sizes, in bits

-- where no size is known, 0
abbrev pub public_key_size : Key → ℕ
public_key_size (RSA key) = modulus_size key.modulus
public_key_size (EC point) = point_size point
public_key_size (DSA y) = bits_in (length y)
public_key_size (GostR3410 y) = bits_in (length y)
public_key_size (GostR3410_2012 y) = 0
public_key_size (Unknown bits) = 0

-- ---- the grammar of the key bits

-- a value, and the key that it is
abbrev pub made : {A : Type 0} → (A → Key) → Field A → Field Key
made make p = p >>= λ a. give (make a)

-- what stands first in the key bits, or all of them
unfoldable pub key_of_kind : KeyKind → Field Key
-- RSAPublicKey (RFC 8017, A.1.1)
key_of_kind kinds.RSA = made (λ key. RSA key) rsa_public_key
-- ECPoint (RFC 5480, 2.2)
key_of_kind kinds.EC = made (λ point. EC point) all_behind
-- DSAPublicKey ::= INTEGER (RFC 3279, 2.3.2)
key_of_kind kinds.DSA = made (λ y. DSA y) (named x509.InvalidSPKI integer)
-- GostR3410-2001-PublicKey ::= OCTET STRING (RFC 4491, 2.3.2)
key_of_kind kinds.GostR3410 = made (λ y. GostR3410 y) (named x509.InvalidSPKI octets)
-- GostR3410-2012-256-PublicKey, GostR3410-2012-512-PublicKey ::= OCTET STRING (RFC 9215, 4)
key_of_kind kinds.GostR3410_2012 = made (λ y. GostR3410_2012 y) (named x509.InvalidSPKI octets)
key_of_kind kinds.Unknown = made (λ bits. Unknown bits) all_behind

-- the key bits of an algorithm
abbrev pub key_by : List ℕ → Field Key
key_by algorithm = key_of_kind (kind_of algorithm)

-- the key bits of the algorithm begin with this key; bytes behind it are skipped
abbrev pub HoldsKey : List ℕ → List ℕ → Key → Type 0
HoldsKey algorithm bits key = (rest : List ℕ) × (key_by algorithm).Is bits key rest

-- the value of what was read; a bad key is InvalidSPKI
abbrev pub key_or_invalid : {F : Type 0} → Outcome F Key → Result Key X509Error
key_or_invalid (Ok x) = Ok x.1
key_or_invalid (Err r) = Err x509.InvalidSPKI

-- the key as it is read
abbrev pub parsed_key : List ℕ → List ℕ → Result Key X509Error
parsed_key algorithm bits = key_or_invalid ((key_by algorithm).read bits)

-- The key that the bits hold; where they hold none, InvalidSPKI.
pub record ParsesKey (algorithm bits : List ℕ) (result : Result PublicKey X509Error) : Type 0 where
  pub holds : IfOk result (λ key. HoldsKey algorithm bits (public_key_of key))
  pub every : (key : Key) → HoldsKey algorithm bits key → Gives public_key_of result (Ok key)
  pub refused : IfErr result (λ e. e ≡ x509.InvalidSPKI)

-- ---- of a key info

abbrev pub key_in : KeyInfo → Result Key X509Error
key_in info = parsed_key info.algorithm.algorithm info.key.bytes

abbrev pub ParsesKeyIn : KeyInfo → Result PublicKey X509Error → Type 0
ParsesKeyIn info result = ParsesKey info.algorithm.algorithm info.key.bytes result
