-- The hashes that signatures are over.
use Rattle.std.specs.Prelude.{ℕ, List, [], ◌∷◌, codes, Option, Some, None, Result, Ok, Err, if◌then◌else◌}
use Rattle.std.specs.Str.{bytes_eq}
use Rattle.x509_der.specs.Reading.{Element}
use Rattle.x509_fields.specs.declared.error.X509Error.{X509Error}
use Rattle.x509_fields.specs.Algorithm.{Algorithm}
use Rattle.x509_names.specs.Objects.{pkcs, us}
use Rattle.x509_keys.specs.declared.hash_algorithm.HashAlgorithm.{HashAlgorithm}
use Rattle.x509_keys.specs.declared.hash_algorithm.HashAlgorithm.TheVariants as hashes
use Rattle.x509_keys.specs.MaskGenAlgorithm.{sha1, hash_or_sha1}
use Rattle.x509_keys.specs.Parameters.{parameters}
use Rattle.x509_keys.specs.Rows.{value_in}
use Rattle.x509_keys.specs.RsaSsaPssParams.{Pss, pss_fields}
use Rattle.x509_keys.specs.SignatureKinds.{rsassa_pss}

-- digestAlgorithm, 1.2.840.113549.2 (RFC 8017, appendix C)
abbrev rsa_digest : ℕ → List ℕ
rsa_digest n = 0x2a ∷ 0x86 ∷ 0x48 ∷ 0x86 ∷ 0xf7 ∷ 0x0d ∷ 0x02 ∷ n ∷ []

-- nistAlgorithms, 2.16.840.1.101.3.4 (RFC 5758, 2)
abbrev nist : ℕ → ℕ → List ℕ
nist family n = 0x60 ∷ 0x86 ∷ 0x48 ∷ 0x01 ∷ 0x65 ∷ 0x03 ∷ 0x04 ∷ family ∷ n ∷ []

abbrev pub hash_algorithms : List (List ℕ × HashAlgorithm)
hash_algorithms =
    (rsa_digest 0x02, hashes.Md2) ∷
    (rsa_digest 0x05, hashes.Md5) ∷
    (sha1, hashes.Sha1) ∷
    (nist 0x02 0x04, hashes.Sha224) ∷
    (nist 0x02 0x01, hashes.Sha256) ∷
    (nist 0x02 0x02, hashes.Sha384) ∷
    (nist 0x02 0x03, hashes.Sha512) ∷
    (nist 0x02 0x05, hashes.Sha512_224) ∷
    (nist 0x02 0x06, hashes.Sha512_256) ∷
    []

unfoldable pub hash_algorithm_of : List ℕ → Option HashAlgorithm
hash_algorithm_of octets = value_in hash_algorithms octets

abbrev pub hash_word : HashAlgorithm → List ℕ
hash_word hashes.Md2 = codes "md2"
hash_word hashes.Md5 = codes "md5"
hash_word hashes.Sha1 = codes "sha1"
hash_word hashes.Sha224 = codes "sha224"
hash_word hashes.Sha256 = codes "sha256"
hash_word hashes.Sha384 = codes "sha384"
hash_word hashes.Sha512 = codes "sha512"
hash_word hashes.Sha512_224 = codes "sha512_224"
hash_word hashes.Sha512_256 = codes "sha512_256"

-- ..WithRSAEncryption, below pkcs-1 (RFC 8017, appendix C)
abbrev with_rsa : ℕ → List ℕ
with_rsa n = pkcs (0x01 ∷ n ∷ [])

-- ecdsa-with-SHA.., below ecdsa-with-Specified (RFC 5758, 3.2)
abbrev ecdsa_with : ℕ → List ℕ
ecdsa_with n = us (0xce ∷ 0x3d ∷ 0x04 ∷ 0x03 ∷ n ∷ [])

-- the algorithms whose identifier names their hash
abbrev pub signed_hashes : List (List ℕ × HashAlgorithm)
signed_hashes =
    (with_rsa 0x02, hashes.Md2) ∷
    (with_rsa 0x04, hashes.Md5) ∷
    (with_rsa 0x05, hashes.Sha1) ∷
    (with_rsa 0x0b, hashes.Sha256) ∷
    (with_rsa 0x0c, hashes.Sha384) ∷
    (with_rsa 0x0d, hashes.Sha512) ∷
    (with_rsa 0x0e, hashes.Sha224) ∷
    (with_rsa 0x0f, hashes.Sha512_224) ∷
    (with_rsa 0x10, hashes.Sha512_256) ∷
    -- ecdsa-with-SHA1 (RFC 3279, 2.2.3)
    (us (0xce ∷ 0x3d ∷ 0x04 ∷ 0x01 ∷ []), hashes.Sha1) ∷
    (ecdsa_with 0x01, hashes.Sha224) ∷
    (ecdsa_with 0x02, hashes.Sha256) ∷
    (ecdsa_with 0x03, hashes.Sha384) ∷
    (ecdsa_with 0x04, hashes.Sha512) ∷
    -- id-dsa-with-sha1 (RFC 3279, 2.2.2), and those of RFC 5758, 3.1
    (us (0xce ∷ 0x38 ∷ 0x04 ∷ 0x03 ∷ []), hashes.Sha1) ∷
    (nist 0x03 0x01, hashes.Sha224) ∷
    (nist 0x03 0x02, hashes.Sha256) ∷
    []

unfoldable pub signed_hash_of : List ℕ → Option HashAlgorithm
signed_hash_of octets = value_in signed_hashes octets

abbrev pub pss_hash : Result Pss X509Error → Option HashAlgorithm
pss_hash (Ok params) = hash_algorithm_of (hash_or_sha1 params.hash_algorithm)
pss_hash (Err e) = None

-- the hash that the parameters of RSASSA-PSS name (RFC 4055, 3.1)
abbrev pub hash_in_parameters : Option Element → Option HashAlgorithm
hash_in_parameters (Some e) = pss_hash (parameters pss_fields e)
hash_in_parameters None = None

abbrev pub hash_signed : Algorithm → Option HashAlgorithm
hash_signed a = if bytes_eq a.algorithm rsassa_pss then hash_in_parameters a.parameters else signed_hash_of a.algorithm
