-- What is UTF-8 is read as it stands.
use Rattle.std.proofs.Common.{◌≡◌, ℕ, Bool, true, false, List, Ok, Err, refl, ◌⊎◌, inl, inr}
use Rattle.std.specs.Str.{IsUtf8, is_utf8}
use Rattle.std.proofs.lemmas.Str.{IsUtf8-from_is_utf8, is_utf8-from_IsUtf8}
use Rattle.x509_fields.specs.declared.error.X509Error.TheVariants.{InvalidAttributes}
use Rattle.x509_names.specs.Names.{utf8_in}

either : (b : Bool) → (b ≡ true) ⊎ (b ≡ false)
either true = inl refl
either false = inr refl

pub utf8_in_good : (octets : List ℕ) → IsUtf8 octets → utf8_in octets ≡ Ok octets
utf8_in_good octets is = rw (is_utf8-from_IsUtf8 octets is) refl

pub utf8_in_bad : (octets : List ℕ) → (IsUtf8 octets → ⊥) → utf8_in octets ≡ Err InvalidAttributes
utf8_in_bad octets not = elim (either (is_utf8 octets)) [
  | inl e ↦ absurd (not (IsUtf8-from_is_utf8 octets e))
  | inr e ↦ rw e refl
]
