-- Steps that are taken one after another, as a logger takes messages and a visitor visits.
use Rattle.std.specs.Prelude.{◌≡◌, List, [], ◌∷◌, ◌⊎◌, Result, Ok, Err}
use Rattle.x509_fields.specs.declared.error.X509Error.{X509Error}

-- the answer of one step
abbrev pub Stepped : Type 0
Stepped = Result (Unit {0}) X509Error

-- `step s x r t`: a call with x may take the state s to t and answer r
module _ {S X : Type 0} (step : S → X → Stepped → S → Type 0) where
  -- each step was taken, in order
  unfoldable pub Took : S → List X → S → Type 0
  Took s [] t = s ≡ t
  Took s (x ∷ xs) t = (u : S) × step s x (Ok tt) u × Took u xs t

-- `AtOnce e`: the error e may come at any moment, without a step
module _ {S X : Type 0} (AtOnce : X509Error → Type 0) (step : S → X → Stepped → S → Type 0) where
  -- a beginning was taken, and then the next step was refused with e, or e came at once
  unfoldable pub StoppedAt : S → List X → X509Error → S → Type 0
  StoppedAt s [] e t = AtOnce e × (s ≡ t)
  StoppedAt s (x ∷ xs) e t = (AtOnce e × (s ≡ t)) ⊎ step s x (Err e) t ⊎ ((u : S) × step s x (Ok tt) u × StoppedAt u xs e t)

  -- all the steps, and then this answer; or up to the first that is refused
  abbrev pub Runs : {A : Type 0} → S → List X → A → Result A X509Error → S → Type 0
  Runs s xs answer (Ok a) t = (a ≡ answer) × Took step s xs t
  Runs s xs answer (Err e) t = StoppedAt s xs e t

-- no error comes without a step
abbrev pub NeverAtOnce : X509Error → Type 0
NeverAtOnce _ = ⊥
