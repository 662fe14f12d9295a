-- What is shown of texts.
use Rattle.std.proofs.Common.{◌≡◌, ℕ, Bool, true, false, cond, List, ◌++◌, Some, None, refl, sym, ap, ◌∙◌, append_assoc}
use Rattle.std.specs.Str.{IsUtf8, is_utf8}
use Rattle.std.proofs.lemmas.Str.{IsUtf8-from_is_utf8, is_utf8-from_IsUtf8}
use Rattle.x509_report_lines.proofs.Shown.{escaped_shown}

pub is_text : (octets : List ℕ) → IsUtf8 octets → Some octets ≡ cond (is_utf8 octets) (Some octets) None
is_text octets h = sym (ap (λ b. cond b (Some octets) None) (is_utf8-from_IsUtf8 octets h))

pub no_text : (octets : List ℕ) → (IsUtf8 octets → ⊥) → None ≡ cond (is_utf8 octets) (Some octets) None
no_text octets h = go (is_utf8 octets) (λ e. h (IsUtf8-from_is_utf8 octets e))
  where
    go : (b : Bool) → (b ≡ true → ⊥) → None ≡ cond b (Some octets) None
    go true n = absurd (n refl)
    go false n = refl

-- ---- one text behind another

pub both : (old mid new a b : List ℕ) → mid ≡ old ++ a → new ≡ mid ++ b → new ≡ old ++ (a ++ b)
both old mid new a b e f = f ∙ ap (λ (t : List ℕ). t ++ b) e ∙ append_assoc old a b

pub both_as : (old mid new a b c : List ℕ) → mid ≡ old ++ a → new ≡ mid ++ b → b ≡ c → new ≡ old ++ (a ++ c)
both_as old mid new a b c e f is = both old mid new a b e f ∙ ap (λ (t : List ℕ). old ++ (a ++ t)) is

pub ruleset texts = (is_text, no_text, escaped_shown)
