-- Quota ::= SEQUENCE { each [0] INTEGER OPTIONAL, all [1] INTEGER OPTIONAL }, to its end
use Rattle.std.specs.Prelude.{ℕ, ◌+◌, Option}
use Rattle.x509_der.specs.declared.error.BerError.TheVariants as ber
use Rattle.x509_der.specs.Laws.{IsMarkedElement}
use Rattle.x509_der.specs.Leaves.{BerPlan, implicit_u32, sequence}
use Rattle.x509_der.specs.Plan.{◌>>=◌, give, soft, context, to_end, container}
use Rattle.x509_der.specs.Promises.{is_ber_memory, ended_early, option_heads}
use Rattle.x509_der.proofs.Marking.{marked}
use Rattle.der_example.specs.declared.quota.Quota.{Quota}

-- ---- the value

pub record QuotaValue : Type 0 where
  pub each : Option ℕ
  pub all : Option ℕ

abbrev pub quota_of : Quota → QuotaValue
quota_of q = record { each = q.each; all = q.all }

-- ---- the grammar

unfoldable pub quota : BerPlan QuotaValue
quota = container sequence (to_end (ended_early ber.NomError) do
  each ← soft (context 0) (implicit_u32 0)
  all ← soft (context 1) (implicit_u32 1)
  give (record { each = each; all = all }))

-- ---- heads

abbrev pub quota_heads : QuotaValue → ℕ
quota_heads q = 1 + option_heads (λ _. 1) q.each + option_heads (λ _. 1) q.all

-- ---- laws

pub quota_laws : IsMarkedElement is_ber_memory quota
unfolding quota
quota_laws = search marked depth 40
