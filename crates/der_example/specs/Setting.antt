-- Setting ::= SEQUENCE { on BOOLEAN OPTIONAL, level INTEGER OPTIONAL }, to its end; every refusal in it is BerValueError
use Rattle.std.specs.Prelude.{ℕ, ◌+◌, Bool, Option}
use Rattle.x509_der.specs.declared.error.BerError.TheVariants as ber
use Rattle.x509_der.specs.declared.error.Err.TheVariants as refusals
use Rattle.x509_der.specs.Laws.{IsMarkedElement, IsMarkedField, AtEnd}
use Rattle.x509_der.specs.Leaves.{BerPlan, bool, u32, sequence}
use Rattle.x509_der.specs.Plan.{◌>>=◌, give, soft, universal, or_refuse, to_end, container}
use Rattle.x509_der.specs.Promises.{is_ber_memory, ended_early, option_heads}
use Rattle.x509_der.proofs.Marking.{marked}
use Rattle.der_example.specs.declared.setting.Setting.{Setting}

-- ---- the value

pub record SettingValue : Type 0 where
  pub on : Option Bool
  pub level : Option ℕ

abbrev pub setting_of : Setting → SettingValue
setting_of s = record { on = s.on; level = s.level }

-- ---- the grammar

unfoldable pub setting_fields : BerPlan SettingValue
setting_fields = to_end (ended_early ber.NomError) do
  on ← soft (universal 1) bool
  level ← soft (universal 2) u32
  give (record { on = on; level = level })

unfoldable pub setting : BerPlan SettingValue
setting = container sequence (or_refuse (refusals.Error ber.BerValueError) setting_fields)

-- ---- heads

abbrev pub setting_heads : SettingValue → ℕ
setting_heads s = 1 + option_heads (λ _. 1) s.on + option_heads (λ _. 1) s.level

-- ---- laws

pub setting_fields_laws : IsMarkedField is_ber_memory AtEnd setting_fields
unfolding setting_fields
setting_fields_laws = search marked depth 40

pub setting_laws : IsMarkedElement is_ber_memory setting
unfolding setting
setting_laws = search (marked, setting_fields_laws) depth 40
