-- What a key info says of its key beside the key itself: what it is for, its curve and its size in bits.
use Rattle.std.specs.Prelude.{ℕ, Option, Some, None, Result, Ok, Err, if◌then◌else◌}
use Rattle.x509_der.specs.Primitives.{is_primitive}
use Rattle.x509_der.specs.Reading.{Element}
use Rattle.x509_fields.specs.declared.error.X509Error.{X509Error}
use Rattle.x509_keys.specs.declared.key_algorithm.KeyAlgorithm.{KeyAlgorithm}
use Rattle.x509_keys.specs.declared.key_algorithm.KeyAlgorithm.TheVariants as keys
use Rattle.x509_keys.specs.declared.key_algorithm.NamedCurve.{NamedCurve}
use Rattle.x509_keys.specs.declared.key_kind.KeyKind.TheVariants as kinds
use Rattle.x509_keys.specs.KeyAlgorithms.{key_algorithm_of, named_curve_of, field_bits}
use Rattle.x509_keys.specs.KeyInfo.{KeyInfo}
use Rattle.x509_keys.specs.PublicKey.{Key, key_in, key_of_kind, key_or_invalid, public_key_size}

abbrev pub algorithm_in : KeyInfo → KeyAlgorithm
algorithm_in info = key_algorithm_of info.algorithm.algorithm

-- ECParameters ::= CHOICE { namedCurve OBJECT IDENTIFIER } (RFC 5480, 2.1.1)
abbrev pub curve_named_by : Option Element → Option NamedCurve
curve_named_by (Some e) = if is_primitive 6 e.header then named_curve_of e.contents else None
curve_named_by None = None

abbrev pub curve_in : KeyInfo → Option NamedCurve
curve_in info = curve_named_by info.algorithm.parameters

-- the size of a key that was read
abbrev pub size_of_key : Result Key X509Error → Option ℕ
size_of_key (Ok key) = Some (public_key_size key)
size_of_key (Err e) = None

-- an RSA key, whatever the algorithm (RFC 4055, 1.2)
abbrev pub rsa_key_in : KeyInfo → Result Key X509Error
rsa_key_in info = key_or_invalid ((key_of_kind kinds.RSA).read info.key.bytes)

-- that of a coordinate, or, where the curve isn't known, of the point's
abbrev pub size_on : Option NamedCurve → KeyInfo → Option ℕ
size_on (Some curve) info = Some (field_bits curve)
size_on None info = size_of_key (key_in info)

abbrev pub size_by : KeyAlgorithm → KeyInfo → Option ℕ
size_by keys.Rsa info = size_of_key (key_in info)
size_by keys.RsaPss info = size_of_key (rsa_key_in info)
size_by keys.Ec info = size_on (curve_in info) info
-- octets of 8 bits: 32, 56, 32, 57 (RFC 8410, 4)
size_by keys.X25519 info = Some 256
size_by keys.X448 info = Some 448
size_by keys.Ed25519 info = Some 256
size_by keys.Ed448 info = Some 456
size_by keys.Dsa info = size_of_key (key_in info)
size_by keys.GostR3410 info = size_of_key (key_in info)
size_by keys.GostR3410_2012_256 info = Some 256
size_by keys.GostR3410_2012_512 info = Some 512
size_by keys.Unknown info = None

abbrev pub size_in : KeyInfo → Option ℕ
size_in info = size_by (algorithm_in info) info
