-- RSAES-OAEP-params  ::=  SEQUENCE  {
--     hashFunc     [0] AlgorithmIdentifier DEFAULT sha1Identifier,
--     maskGenFunc  [1] AlgorithmIdentifier DEFAULT mgf1SHA1Identifier,
--     pSourceFunc  [2] AlgorithmIdentifier DEFAULT pSpecifiedEmptyIdentifier  }
-- (RFC 4055, 4.1; the tags are explicit)
use Rattle.std.specs.Prelude.{List, ℕ, [], ◌∷◌, Option, None}
use Rattle.x509_der.specs.Laws.{IsField}
use Rattle.x509_der.specs.Plan.{◌>>=◌, give}
use Rattle.x509_der.specs.Promises.{option_view}
use Rattle.x509_der.proofs.Rulesets.{laws}
use Rattle.x509_fields.specs.Algorithm.{Algorithm, algorithm_of}
use Rattle.x509_fields.specs.Errors.{is_x509_memory}
use Rattle.x509_fields.specs.Fields.{Field}
use Rattle.x509_names.specs.Objects.{pkcs}
use Rattle.x509_keys.specs.declared.rsa_aes_oaep_params.RsaAesOaepParams.{RsaAesOaepParams}
use Rattle.x509_keys.specs.Parameters.{tagged_algorithm, tagged_algorithm_laws}

-- ---- the value: the fields that are given

pub record Oaep : Type 0 where
  pub hash_algorithm : Option Algorithm
  pub mask_gen_algorithm : Option Algorithm
  pub p_source_alg : Option Algorithm

abbrev pub oaep_of : RsaAesOaepParams → Oaep
oaep_of p = record {
  hash_algorithm = option_view algorithm_of p.hash_algorithm;
  mask_gen_algorithm = option_view algorithm_of p.mask_gen_algorithm;
  p_source_alg = option_view algorithm_of p.p_source_alg;
}

-- ---- defaults

-- id-pSpecified, 1.2.840.113549.1.1.9 (RFC 4055, 4.1)
abbrev pub p_specified : List ℕ
p_specified = pkcs (0x01 ∷ 0x09 ∷ [])

-- an empty label; the empty OCTET STRING of pSpecifiedEmptyIdentifier is left out
abbrev pub p_specified_empty : Algorithm
p_specified_empty = record { algorithm = p_specified; parameters = None }

-- ---- the grammar of the contents

unfoldable pub oaep_fields : Field Oaep
oaep_fields = do
  hash_algorithm ← tagged_algorithm 0
  mask_gen_algorithm ← tagged_algorithm 1
  p_source_alg ← tagged_algorithm 2
  give (record { hash_algorithm = hash_algorithm; mask_gen_algorithm = mask_gen_algorithm; p_source_alg = p_source_alg })

-- ---- laws

pub oaep_laws : IsField is_x509_memory oaep_fields
unfolding oaep_fields
oaep_laws = search (laws, tagged_algorithm_laws) depth 40
