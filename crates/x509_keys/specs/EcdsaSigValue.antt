-- Ecdsa-Sig-Value ::= SEQUENCE {
--     r  INTEGER,
--     s  INTEGER }
-- (RFC 3279, 2.2.3)
use Rattle.std.specs.Prelude.{ℕ, List}
use Rattle.x509_der.specs.Integer.{integer_bytes}
use Rattle.x509_der.specs.Laws.{IsMarkedElement}
use Rattle.x509_der.specs.Leaves.{BerPlan, integer, sequence}
use Rattle.x509_der.specs.Plan.{◌>>=◌, give, container}
use Rattle.x509_der.specs.Promises.{is_ber_memory}
use Rattle.x509_der.proofs.Marking.{marked}
use Rattle.x509_keys.specs.declared.ecdsa_sig_value.EcdsaSigValue.{EcdsaSigValue}

-- ---- the value: the contents of both INTEGERs, as they stand

pub record EcdsaValue : Type 0 where
  pub r : List ℕ
  pub s : List ℕ

abbrev pub ecdsa_value_of : EcdsaSigValue → EcdsaValue
ecdsa_value_of v = record { r = integer_bytes v.r; s = integer_bytes v.s }

-- ---- the grammar

-- bytes behind the second number are skipped
unfoldable pub ecdsa_sig_value : BerPlan EcdsaValue
ecdsa_sig_value = container sequence do
  r ← integer
  s ← integer
  give (record { r = r; s = s })

-- ---- heads

abbrev pub ecdsa_value_heads : EcdsaValue → ℕ
ecdsa_value_heads v = 3

-- ---- laws

pub ecdsa_sig_value_laws : IsMarkedElement is_ber_memory ecdsa_sig_value
unfolding ecdsa_sig_value
ecdsa_sig_value_laws = search marked depth 40
