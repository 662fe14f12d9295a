-- What a walk over a value's parts does to a visitor.
use Rattle.std.specs.Prelude.{◌≡◌, List, ◌⊎◌, Ok}
use Rattle.x509_fields.specs.Steps.{Stepped, Runs, NeverAtOnce}

-- the answer of a visit
abbrev pub Visited : Type 0
Visited = Stepped

module _ {S X : Type 0} (step : S → X → Visited → S → Type 0) where
  -- all the visits, in order, or those up to the first that is refused, with its refusal
  abbrev pub Walks : S → List X → Visited → S → Type 0
  Walks s xs r t = Runs NeverAtOnce step s xs tt r t

  -- a visit that may be left to its default, which accepts and changes nothing
  abbrev pub StepsOrSkips : S → X → Visited → S → Type 0
  StepsOrSkips s x r t = step s x r t ⊎ ((r ≡ Ok tt) × (t ≡ s))
