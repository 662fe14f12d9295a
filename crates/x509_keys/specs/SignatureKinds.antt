-- What kind of signature an algorithm makes, by its identifier.
use Rattle.std.specs.Prelude.{ℕ, Bool, List, [], ◌∷◌, Option, nat_eq}
use Rattle.std.specs.List.{find, starts_with}
use Rattle.std.specs.Option.{option_map}
use Rattle.std.specs.Str.{bytes_eq}
use Rattle.x509_names.specs.Objects.{pkcs, us}
use Rattle.x509_keys.specs.declared.signature_kind.SignatureKind.{SignatureKind}
use Rattle.x509_keys.specs.declared.signature_kind.SignatureKind.TheVariants as kinds

-- id-RSAES-OAEP, 1.2.840.113549.1.1.7 (RFC 4055, 4.1)
abbrev pub rsaes_oaep : List ℕ
rsaes_oaep = pkcs (0x01 ∷ 0x07 ∷ [])

-- id-RSASSA-PSS, 1.2.840.113549.1.1.10 (RFC 4055, 3.1)
abbrev pub rsassa_pss : List ℕ
rsassa_pss = pkcs (0x01 ∷ 0x0a ∷ [])

-- id-Ed25519, 1.3.101.112 (RFC 8410, 3)
abbrev pub ed25519 : List ℕ
ed25519 = 0x2b ∷ 0x65 ∷ 0x70 ∷ []

-- pkcs-1, 1.2.840.113549.1.1 (RFC 4055, 6)
abbrev pub pkcs_1 : List ℕ
pkcs_1 = pkcs (0x01 ∷ [])

-- id-ecSigType, 1.2.840.10045.4 (RFC 3279, 2.2.3)
abbrev pub ec_signatures : List ℕ
ec_signatures = us (0xce ∷ 0x3d ∷ 0x04 ∷ [])

-- 1.2.840.10040.4, below which id-dsa-with-sha1 stands (RFC 3279, 2.2.2)
abbrev pub x9_algorithms : List ℕ
x9_algorithms = us (0xce ∷ 0x38 ∷ 0x04 ∷ [])

-- the identifier, and those below it: its octets begin theirs
abbrev pub begins_with : List ℕ → List ℕ → Bool
begins_with prefix id = starts_with nat_eq id prefix

abbrev pub is_identifier : List ℕ → List ℕ → Bool
is_identifier octets id = bytes_eq id octets

-- in this order: OAEP and PSS stand below pkcs-1 too
abbrev pub signature_kinds : List ((List ℕ → Bool) × SignatureKind)
signature_kinds =
    (is_identifier rsaes_oaep, kinds.Oaep) ∷
    (is_identifier rsassa_pss, kinds.Pss) ∷
    (begins_with pkcs_1, kinds.Rsa) ∷
    (begins_with ec_signatures, kinds.Ecdsa) ∷
    (begins_with x9_algorithms, kinds.Dsa) ∷
    (is_identifier ed25519, kinds.Ed25519) ∷
    []

-- the first kind that fits
unfoldable pub signature_kind_of : List ℕ → Option SignatureKind
signature_kind_of id = option_map (λ r. r.1) (find (λ r. r.0 id) signature_kinds)
