-- What a validator tells a logger.
use Rattle.std.specs.Prelude.{◌≡◌, ℕ, Bool, if◌then◌else◌, List, [], ◌∷◌, Result}
use Rattle.x509_fields.specs.declared.error.X509Error.{X509Error}
use Rattle.x509_fields.specs.declared.error.X509Error.TheVariants.{OutOfMemory}
use Rattle.x509_fields.specs.Steps.{Stepped, Runs}

-- a text at its level
pub data Message : Type 0 where
  warning : List ℕ → Message
  error : List ℕ → Message

-- the message, where something was found
unfoldable pub warning_if : Bool → List ℕ → List Message
warning_if found text = if found then warning text ∷ [] else []

unfoldable pub error_if : Bool → List ℕ → List Message
error_if found text = if found then error text ∷ [] else []

-- the texts of the warnings, and of the errors, in order
abbrev pub warnings_of : List Message → List (List ℕ)
warnings_of [] = []
warnings_of (warning text ∷ ms) = text ∷ warnings_of ms
warnings_of (error _ ∷ ms) = warnings_of ms

abbrev pub errors_of : List Message → List (List ℕ)
errors_of [] = []
errors_of (warning _ ∷ ms) = errors_of ms
errors_of (error text ∷ ms) = text ∷ errors_of ms

-- the answer of one call of a logger
abbrev pub Logged : Type 0
Logged = Stepped

-- want of memory, which may come between two messages
abbrev pub WantsMemory : X509Error → Type 0
WantsMemory e = e ≡ OutOfMemory

-- a run that has these messages to log, and then this answer to give
abbrev pub Logs : {L A : Type 0} → (L → Message → Logged → L → Type 0) → L → List Message → A → Result A X509Error → L → Type 0
Logs step s ms answer result t = Runs WantsMemory step s ms answer result t

-- What a part of a validator promises: its run, behind which more can be logged.
pub record Validates {L A : Type 0} (can_log : L → Type 0) (step : L → Message → Logged → L → Type 0) (s : L) (ms : List Message) (answer : A) (result : Result A X509Error) (t : L) : Type 0 where
  pub can : can_log t
  pub logs : Logs step s ms answer result t
