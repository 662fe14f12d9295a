-- RSASSA-PSS-params  ::=  SEQUENCE  {
--     hashAlgorithm     [0] HashAlgorithm DEFAULT sha1Identifier,
--     maskGenAlgorithm  [1] MaskGenAlgorithm DEFAULT mgf1SHA1Identifier,
--     saltLength        [2] INTEGER DEFAULT 20,
--     trailerField      [3] INTEGER DEFAULT 1  }
-- (RFC 4055, 3.1; the tags are explicit)
use Rattle.std.specs.Prelude.{ℕ, Option}
use Rattle.x509_der.specs.Laws.{IsField}
use Rattle.x509_der.specs.Plan.{◌>>=◌, give}
use Rattle.x509_der.specs.Promises.{option_view}
use Rattle.x509_der.proofs.Rulesets.{laws}
use Rattle.x509_fields.specs.Algorithm.{Algorithm, algorithm_of}
use Rattle.x509_fields.specs.Errors.{is_x509_memory}
use Rattle.x509_fields.specs.Fields.{Field}
use Rattle.x509_keys.specs.declared.rsa_ssa_pss_params.RsaSsaPssParams.{RsaSsaPssParams}
use Rattle.x509_keys.specs.Parameters.{tagged_algorithm, tagged_u32, tagged_algorithm_laws, tagged_u32_laws}

-- ---- the value: the fields that are given

pub record Pss : Type 0 where
  pub hash_algorithm : Option Algorithm
  pub mask_gen_algorithm : Option Algorithm
  pub salt_length : Option ℕ
  pub trailer_field : Option ℕ

abbrev pub pss_of : RsaSsaPssParams → Pss
pss_of p = record {
  hash_algorithm = option_view algorithm_of p.hash_algorithm;
  mask_gen_algorithm = option_view algorithm_of p.mask_gen_algorithm;
  salt_length = p.salt_length;
  trailer_field = p.trailer_field;
}

-- ---- defaults

abbrev pub default_salt_length : ℕ
default_salt_length = 20

-- trailerFieldBC
abbrev pub default_trailer_field : ℕ
default_trailer_field = 1

-- ---- the grammar of the contents

unfoldable pub pss_fields : Field Pss
pss_fields = do
  hash_algorithm ← tagged_algorithm 0
  mask_gen_algorithm ← tagged_algorithm 1
  salt_length ← tagged_u32 2
  trailer_field ← tagged_u32 3
  give (record { hash_algorithm = hash_algorithm; mask_gen_algorithm = mask_gen_algorithm; salt_length = salt_length; trailer_field = trailer_field })

-- ---- laws

pub pss_laws : IsField is_x509_memory pss_fields
unfolding pss_fields
pss_laws = search (laws, tagged_algorithm_laws, tagged_u32_laws) depth 40
