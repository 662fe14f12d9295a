-- What kind of key an algorithm has, by its identifier.
use Rattle.std.specs.Prelude.{ℕ, List, [], ◌∷◌, unwrap_or}
use Rattle.std.specs.List.{find}
use Rattle.std.specs.Option.{option_map}
use Rattle.std.specs.Str.{bytes_eq}
use Rattle.x509_names.specs.Objects.{pkcs, us, russia}
use Rattle.x509_keys.specs.declared.key_kind.KeyKind.{KeyKind}
use Rattle.x509_keys.specs.declared.key_kind.KeyKind.TheVariants as kinds

-- rsaEncryption, 1.2.840.113549.1.1.1 (RFC 8017, appendix C)
abbrev pub rsa_encryption : List ℕ
rsa_encryption = pkcs (0x01 ∷ 0x01 ∷ [])

-- id-ecPublicKey, 1.2.840.10045.2.1 (RFC 5480, 2.1.1)
abbrev pub ec_public_key : List ℕ
ec_public_key = us (0xce ∷ 0x3d ∷ 0x02 ∷ 0x01 ∷ [])

-- id-dsa, 1.2.840.10040.4.1 (RFC 3279, 2.3.2)
abbrev pub dsa : List ℕ
dsa = us (0xce ∷ 0x38 ∷ 0x04 ∷ 0x01 ∷ [])

-- gostR3410-2001, 1.2.643.2.2.19 (RFC 4491, 2.3.2)
abbrev pub gost_2001 : List ℕ
gost_2001 = russia (0x02 ∷ 0x02 ∷ 0x13 ∷ [])

-- gostR3410-2012-256, 1.2.643.7.1.1.1.1 (RFC 9215, 4)
abbrev pub gost_2012_256 : List ℕ
gost_2012_256 = russia (0x07 ∷ 0x01 ∷ 0x01 ∷ 0x01 ∷ 0x01 ∷ [])

-- gostR3410-2012-512, 1.2.643.7.1.1.1.2 (RFC 9215, 4)
abbrev pub gost_2012_512 : List ℕ
gost_2012_512 = russia (0x07 ∷ 0x01 ∷ 0x01 ∷ 0x01 ∷ 0x02 ∷ [])

abbrev pub known : List (List ℕ × KeyKind)
known =
    (rsa_encryption, kinds.RSA) ∷
    (ec_public_key, kinds.EC) ∷
    (dsa, kinds.DSA) ∷
    (gost_2001, kinds.GostR3410) ∷
    (gost_2012_256, kinds.GostR3410_2012) ∷
    (gost_2012_512, kinds.GostR3410_2012) ∷
    []

-- Unknown where the identifier has no row
unfoldable pub kind_of : List ℕ → KeyKind
kind_of id = unwrap_or (option_map (λ r. r.1) (find (λ r. bytes_eq id r.0) known)) kinds.Unknown
