-- The word of a rule's number is its own.
use Rattle.std.proofs.Common.{◌≡◌, ℕ, refl, ap, sym, ◌∙◌}
use Rattle.x509_elements.specs.Words.{leniency_word}
use Rattle.x509_elements.specs.declared.leniency.Leniency.{Leniency}
use Rattle.x509_elements.specs.declared.leniency.Leniency.TheVariants.{BytesBehind, WrapperByNumber, AnySerial, BasicTruth, UnreadableField, AttributeByNumbers, ChoiceByNumber, UnreadableName, TimestampsBehind, Inside}
use Rattle.x509_c.specs.Findings.{rule_number, rule_word}

own_words : (r : Leniency) → rule_word (rule_number r) ≡ leniency_word r
own_words BytesBehind = refl
own_words WrapperByNumber = refl
own_words AnySerial = refl
own_words BasicTruth = refl
own_words UnreadableField = refl
own_words AttributeByNumbers = refl
own_words ChoiceByNumber = refl
own_words UnreadableName = refl
own_words TimestampsBehind = refl
own_words Inside = refl

pub rule_words : (number : ℕ) (r : Leniency) → rule_number r ≡ number → rule_word number ≡ leniency_word r
rule_words number r same = sym (ap rule_word same) ∙ own_words r
