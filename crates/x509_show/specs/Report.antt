-- What the program writes, and with which exit status.
use Rattle.std.specs.Prelude.{◌≡◌, ℕ, List, ◌++◌, codes}
use Rattle.x509_der.specs.declared.error.Err.{Err as Refusal}
use Rattle.x509_der.specs.Words.{refusal_word}

-- a text and an exit status
pub record Report : Type 0 where
  pub text : List ℕ
  pub status : ℕ

unfoldable pub refused_report : {E : Type 0} → (E → List ℕ) → Refusal E → Report
refused_report word_of refusal = record { text = codes "refused: " ++ refusal_word word_of refusal ++ codes "\n"; status = 1 }

-- it is one, and there is no other
pub record IsOnly {A : Type 0} (P : A → Type 0) (x : A) : Type 0 where
  pub is : P x
  pub only : (y : A) → P y → y ≡ x
