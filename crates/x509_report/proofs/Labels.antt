-- Labels that are text, and those that are none.
use Rattle.std.proofs.Common.{◌≡◌, ℕ, Bool, true, false, cond, List, Some, None, refl, sym, ap}
use Rattle.std.specs.Str.{IsUtf8, is_utf8}
use Rattle.std.proofs.lemmas.Str.{IsUtf8-from_is_utf8, is_utf8-from_IsUtf8}
use Rattle.x509_report.specs.Labels.{label_text}

pub text_label : (label : List ℕ) → IsUtf8 label → Some label ≡ label_text label
text_label label h = sym (ap (λ b. cond b (Some label) None) (is_utf8-from_IsUtf8 label h))

pub no_label : (label : List ℕ) → (IsUtf8 label → ⊥) → None ≡ label_text label
no_label label h = go (is_utf8 label) (λ e. h (IsUtf8-from_is_utf8 label e))
  where
    go : (b : Bool) → (b ≡ true → ⊥) → None ≡ cond b (Some label) None
    go true n = absurd (n refl)
    go false n = refl

pub ruleset labels = (text_label, no_label)
