-- MaskGenAlgorithm ::= AlgorithmIdentifier
-- mgf1SHA1Identifier  MaskGenAlgorithm  ::=  { id-mgf1, sha1Identifier }
-- (RFC 4055, 2.2: the parameters of id-mgf1 are the AlgorithmIdentifier of a hash)
use Rattle.std.specs.Prelude.{ℕ, List, [], ◌∷◌, Option, Some, None, Result, Ok, Err}
use Rattle.x509_der.specs.Leaves.{oid}
use Rattle.x509_der.specs.Oid.{oid_bytes}
use Rattle.x509_der.specs.Reading.{Element, Reading}
use Rattle.x509_fields.specs.declared.error.X509Error.{X509Error}
use Rattle.x509_fields.specs.declared.error.X509Error.TheVariants as x509
use Rattle.x509_fields.specs.Algorithm.{Algorithm}
use Rattle.x509_names.specs.Objects.{pkcs}
use Rattle.x509_keys.specs.declared.mask_gen_algorithm.MaskGenAlgorithm.{MaskGenAlgorithm}

-- ---- the value: the identifiers of the function and of its hash

pub record MaskGen : Type 0 where
  pub mgf : List ℕ
  pub hash : List ℕ

abbrev pub mask_gen_of : MaskGenAlgorithm → MaskGen
mask_gen_of m = record { mgf = oid_bytes m.mgf; hash = oid_bytes m.hash }

-- ---- defaults

-- id-sha1, 1.3.14.3.2.26 (RFC 4055, 2.1)
abbrev pub sha1 : List ℕ
sha1 = 0x2b ∷ 0x0e ∷ 0x03 ∷ 0x02 ∷ 0x1a ∷ []

-- id-mgf1, 1.2.840.113549.1.1.8 (RFC 4055, 2.2)
abbrev pub mgf1 : List ℕ
mgf1 = pkcs (0x01 ∷ 0x08 ∷ [])

-- the identifier of a hash, sha1Identifier where none is given
abbrev pub hash_or_sha1 : Option Algorithm → List ℕ
hash_or_sha1 None = sha1
hash_or_sha1 (Some hash) = hash.algorithm

-- ---- the mask generator

-- with the hash with whose identifier the contents of the parameters begin; none where they begin with no identifier
abbrev pub with_hash : List ℕ → Reading (List ℕ) → Result MaskGen X509Error
with_hash mgf (Ok hash) = Ok (record { mgf = mgf; hash = hash.1 })
with_hash mgf (Err r) = Err x509.InvalidAlgorithmIdentifier

-- none where there are no parameters
abbrev pub with_parameters : List ℕ → Option Element → Result MaskGen X509Error
with_parameters mgf None = Err x509.InvalidAlgorithmIdentifier
with_parameters mgf (Some parameters) = with_hash mgf (oid.read parameters.contents)

-- mgf1SHA1Identifier where none is given
abbrev pub mask_gen_or_mgf1 : Option Algorithm → Result MaskGen X509Error
mask_gen_or_mgf1 None = Ok (record { mgf = mgf1; hash = sha1 })
mask_gen_or_mgf1 (Some a) = with_parameters a.algorithm a.parameters
