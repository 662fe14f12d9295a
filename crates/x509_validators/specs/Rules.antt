-- Rules as rows of a table: how much one matters, whether an item breaks it, and what is told then.
use Rattle.std.specs.Prelude.{ℕ, Bool, List, ◌++◌}
use Rattle.std.specs.List.{flat_map}
use Rattle.x509_validators.specs.Message.{Message, warning_if, error_if}
use Rattle.x509_validators.specs.declared.rule.Level.{Level}
use Rattle.x509_validators.specs.declared.rule.Level.TheVariants.{Warning, Error}
use Rattle.x509_validators.specs.declared.rule.Rule.{Rule}
use Rattle.x509_validators.specs.declared.rule.Text.{Text}
use Rattle.x509_validators.specs.declared.rule.Text.TheVariants.{Plain, Naming}

pub record Row : Type 0 where
  pub level : Level
  pub broken : Bool
  pub text : List ℕ

abbrev pub warning_where : Bool → List ℕ → Row
warning_where broken text = record { level = Warning; broken = broken; text = text }

abbrev pub error_where : Bool → List ℕ → Row
error_where broken text = record { level = Error; broken = broken; text = text }

abbrev pub message_at : Level → Bool → List ℕ → List Message
message_at Warning broken text = warning_if broken text
message_at Error broken text = error_if broken text

-- the message of a rule, where it is broken
abbrev pub row_message : Row → List Message
row_message r = message_at r.level r.broken r.text

-- those of all rules, in order
abbrev pub told : List Row → List Message
told rows = flat_map row_message rows

-- ---- of the code

abbrev pub text_of : Text → List ℕ
text_of (Plain text) = text.now
text_of (Naming before name behind) = before.now ++ name.now ++ behind.now

abbrev pub row_of : Rule → Row
row_of r = record { level = r.level; broken = r.broken; text = text_of r.text }
