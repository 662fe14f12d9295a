-- A visit, and then a walk; walks over the members of a list, each seen as its value.
use Rattle.std.proofs.Common.{◌≡◌, ℕ, ◌+◌, ◌<◌, List, [], ◌∷◌, Ok, Err, inl, inr, length, map, get_or, take, subst, sym, refl, ◌∙◌}
use Rattle.std.specs.List.{flat_map}
use Rattle.std.proofs.lemmas.Simd.{map-map}
use Rattle.std.proofs.lemmas.List.Folds.{flat_map-map}
use Rattle.x509_fields.specs.declared.error.X509Error.{X509Error}
use Rattle.x509_fields.specs.Steps.{Took, StoppedAt, NeverAtOnce}
use Rattle.x509_fields.proofs.Steps as steps
use Rattle.x509_fields.specs.Visits.{Visited, Walks, StepsOrSkips}

module _ {S X : Type 0} (step : S → X → Visited → S → Type 0) where
  -- a walk of one visit
  pub walks-one : (s : S) (x : X) (r : Visited) (t : S) → step s x r t → Walks step s (x ∷ []) r t
  walks-one s x (Ok w) t p = (refl, steps.Took-one step s x t p)
  walks-one s x (Err e) t p = steps.StoppedAt-one NeverAtOnce step s x e t p

  -- the first visit is refused
  pub stopped-first : (s : S) (x : X) (xs : List X) (e : X509Error) (t : S) → StoppedAt NeverAtOnce step s (x ∷ []) e t → StoppedAt NeverAtOnce step s (x ∷ xs) e t
  stopped-first s x xs e t p = steps.StoppedAt-before NeverAtOnce step s (x ∷ []) xs e t p

  -- a later one
  pub stopped-later : (s : S) (x : X) (u : S) (xs : List X) (e : X509Error) (t : S) → Took step s (x ∷ []) u → StoppedAt NeverAtOnce step u xs e t → StoppedAt NeverAtOnce step s (x ∷ xs) e t
  stopped-later s x u xs e t p q = steps.StoppedAt-after NeverAtOnce step s (x ∷ []) u xs e t p q

  -- the first visit is accepted, and then a walk
  pub walks-first : (s : S) (x : X) (u : S) (xs : List X) (r : Visited) (t : S) → Took step s (x ∷ []) u → Walks step u xs r t → Walks step s (x ∷ xs) r t
  walks-first s x u xs r t p q = steps.Runs-after NeverAtOnce step s (x ∷ []) u xs tt r t p q

-- ---- a walk over a list that goes on to the member x; each member is a list of visits

module _ {S X A V : Type 0} (step : S → X → Visited → S → Type 0) (f : V → List X) (view : A → V) where
  pub took-members : (xs : List A) (k : ℕ) (x : A) (s u t : S) → k < length xs → x ≡ get_or xs k x → Took step s (flat_map f (map view (take k xs))) u → Took step u (f (view x)) t → Took step s (flat_map f (map view (take (k + 1) xs))) t
  took-members xs k x s u t h is p q =
      let P : S → List X → Type 0 = λ v ys. Took step s ys v in
      let Q : A → Type 0 = λ y. Took step u (f (view y)) t in
      subst (P t) (sym (flat_map-map f view (take (k + 1) xs)))
      (steps.Took-flat_map step (λ y. f (view y)) xs k x s u t h (subst (P u) (flat_map-map f view (take k xs)) p) (subst Q is q))

  pub stopped-members : (xs : List A) (k : ℕ) (x : A) (s u : S) (e : X509Error) (t : S) → k < length xs → x ≡ get_or xs k x → Took step s (flat_map f (map view (take k xs))) u → StoppedAt NeverAtOnce step u (f (view x)) e t → StoppedAt NeverAtOnce step s (flat_map f (map view xs)) e t
  stopped-members xs k x s u e t h is p q =
      let P : List X → Type 0 = λ ys. Took step s ys u in
      let Q : A → Type 0 = λ y. StoppedAt NeverAtOnce step u (f (view y)) e t in
      let R : List X → Type 0 = λ ys. StoppedAt NeverAtOnce step s ys e t in
      subst R (sym (flat_map-map f view xs))
      (steps.StoppedAt-flat_map NeverAtOnce step (λ y. f (view y)) xs k x s u e t h (subst P (flat_map-map f view (take k xs)) p) (subst Q is q))

-- ---- the same, where each member is one visit

module _ {S X A V : Type 0} (step : S → X → Visited → S → Type 0) (f : V → X) (view : A → V) where
  pub took-each : (xs : List A) (k : ℕ) (x : A) (s u t : S) → k < length xs → x ≡ get_or xs k x → Took step s (map f (map view (take k xs))) u → step u (f (view x)) (Ok tt) t → Took step s (map f (map view (take (k + 1) xs))) t
  took-each xs k x s u t h is p q =
      let P : S → List X → Type 0 = λ v ys. Took step s ys v in
      let Q : A → Type 0 = λ y. step u (f (view y)) (Ok tt) t in
      subst (P t) (sym (map-map f view (take (k + 1) xs)))
      (steps.Took-map step (λ y. f (view y)) xs k x s u t h (subst (P u) (map-map f view (take k xs)) p) (subst Q is q))

  pub stopped-each : (xs : List A) (k : ℕ) (x : A) (s u : S) (e : X509Error) (t : S) → k < length xs → x ≡ get_or xs k x → Took step s (map f (map view (take k xs))) u → step u (f (view x)) (Err e) t → StoppedAt NeverAtOnce step s (map f (map view xs)) e t
  stopped-each xs k x s u e t h is p q =
      let P : List X → Type 0 = λ ys. Took step s ys u in
      let Q : A → Type 0 = λ y. step u (f (view y)) (Err e) t in
      let R : List X → Type 0 = λ ys. StoppedAt NeverAtOnce step s ys e t in
      subst R (sym (map-map f view xs))
      (steps.StoppedAt-map NeverAtOnce step (λ y. f (view y)) xs k x s u e t h (subst P (map-map f view (take k xs)) p) (subst Q is q))

pub ruleset walking = (steps.walking, walks-one, walks-first, stopped-first, stopped-later, took-members, stopped-members, took-each, stopped-each)

-- ---- walks of visits that are all left to their defaults

not-accepted : (e : X509Error) → ◌≡◌ {A = Visited} (Err e) (Ok tt) → ⊥
not-accepted e h = cc

module _ {S X : Type 0} where
  -- a visit that is left to its default
  abbrev Skips : S → X → Visited → S → Type 0
  Skips s x r t = StepsOrSkips (λ _ _ _ _. ⊥) s x r t

  took-by-defaults : (s : S) (xs : List X) (t : S) → Took Skips s xs t → t ≡ s
  unfolding Took
  took-by-defaults s [] t p = sym p
  took-by-defaults s (x ∷ xs) t p = elim p.1 [ inl w ↦ absurd w | inr w ↦ took-by-defaults p.0 xs t p.2 ∙ w.1 ]

  never-stopped : (s : S) (xs : List X) (e : X509Error) (t : S) → StoppedAt NeverAtOnce Skips s xs e t → ⊥
  unfolding StoppedAt
  never-stopped s [] e t p = p.0
  never-stopped s (x ∷ xs) e t p = elim p [ inl w ↦ w.0 | inr w ↦ elim w [ inl v ↦ elim v [ inl y ↦ y | inr y ↦ not-accepted e y.0 ] | inr v ↦ never-stopped v.0 xs e t v.2 ] ]

  -- no visit is refused
  pub accepted-by-defaults : (s : S) (xs : List X) (r : Visited) (t : S) → Walks (λ s x r t. StepsOrSkips (λ _ _ _ _. ⊥) s x r t) s xs r t → r ≡ Ok tt
  accepted-by-defaults s xs (Ok w) t p = refl
  accepted-by-defaults s xs (Err e) t p = absurd (never-stopped s xs e t p)

  -- the visitor stays as it was
  pub same-by-defaults : (s : S) (xs : List X) (r : Visited) (t : S) → Walks (λ s x r t. StepsOrSkips (λ _ _ _ _. ⊥) s x r t) s xs r t → t ≡ s
  same-by-defaults s xs (Ok w) t p = took-by-defaults s xs t p.1
  same-by-defaults s xs (Err e) t p = absurd (never-stopped s xs e t p)
