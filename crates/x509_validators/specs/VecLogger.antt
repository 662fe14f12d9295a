use Rattle.std.specs.Prelude.{◌≡◌, ℕ, List, [], ◌∷◌, ◌++◌, MatchResult}
use Rattle.x509_fields.specs.declared.error.X509Error.TheVariants.{OutOfMemory}
use Rattle.x509_validators.specs.Message.{Message, warning, error, Logged}

-- the messages that a logger keeps, by level
pub record Kept : Type 0 where
  pub warnings : List (List ℕ)
  pub errors : List (List ℕ)

abbrev pub with_message : Kept → Message → Kept
with_message k (warning text) = record { warnings = k.warnings ++ text ∷ []; errors = k.errors }
with_message k (error text) = record { warnings = k.warnings; errors = k.errors ++ text ∷ [] }

-- a message is appended, or memory ran out and nothing changes
abbrev pub keeps : Kept → Message → Logged → Kept → Type 0
keeps s m r t = MatchResult r (λ _. t ≡ with_message s m) (λ e. (e ≡ OutOfMemory) × (t ≡ s))
