-- The visits of a part are visits of the whole.
use Rattle.std.proofs.Common.{List, [], ◌∷◌, Ok, Err, inl, inr, map}
use Rattle.x509_fields.specs.declared.error.X509Error.{X509Error}
use Rattle.x509_fields.specs.Steps.{Took, StoppedAt, NeverAtOnce}
use Rattle.x509_fields.specs.Visits.{Visited, Walks}

module _ {S X Y : Type 0} (step : S → Y → Visited → S → Type 0) (f : X → Y) where
  abbrev Lifted : S → X → Visited → S → Type 0
  Lifted s x r t = step s (f x) r t

  took-lifted : (s : S) (xs : List X) (t : S) → Took Lifted s xs t → Took step s (map f xs) t
  unfolding Took
  took-lifted s [] t p = p
  took-lifted s (x ∷ xs) t p = (p.0, p.1, took-lifted p.0 xs t p.2)

  stopped-lifted : (s : S) (xs : List X) (e : X509Error) (t : S) → StoppedAt NeverAtOnce Lifted s xs e t → StoppedAt NeverAtOnce step s (map f xs) e t
  unfolding StoppedAt
  stopped-lifted s [] e t p = p
  stopped-lifted s (x ∷ xs) e t p = elim p [ inl w ↦ inl w | inr w ↦ elim w [ inl v ↦ inr (inl v) | inr v ↦ inr (inr (v.0, v.1, stopped-lifted v.0 xs e t v.2)) ] ]

  pub walks-lifted : (s : S) (xs : List X) (r : Visited) (t : S) → Walks Lifted s xs r t → Walks step s (map f xs) r t
  walks-lifted s xs (Ok w) t p = (p.0, took-lifted s xs t p.1)
  walks-lifted s xs (Err e) t p = stopped-lifted s xs e t p
