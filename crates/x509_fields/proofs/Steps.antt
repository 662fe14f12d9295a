-- How the runs of two parts make one run.
use Rattle.std.proofs.Common.{◌≡◌, ℕ, ◌+◌, ◌<◌, List, [], ◌∷◌, ◌++◌, Result, Ok, Err, length, map, get_or, take, drop, append-nil, refl, inl, inr, subst, sym, ◌∙◌}
use Rattle.std.specs.List.{flat_map}
use Rattle.std.proofs.lemmas.List.{take_more, take-append-drop, map-append}
use Rattle.std.proofs.lemmas.List.Concat.{flat_map-append}
use Rattle.x509_fields.specs.declared.error.X509Error.{X509Error}
use Rattle.x509_fields.specs.Steps.{Stepped, Took, StoppedAt, Runs}

module _ {S X : Type 0} (step : S → X → Stepped → S → Type 0) where
  -- no step
  pub Took-none : (s : S) → Took step s [] s
  unfolding Took
  Took-none s = refl

  -- one step is taken
  pub Took-one : (s : S) (x : X) (t : S) → step s x (Ok tt) t → Took step s (x ∷ []) t
  unfolding Took
  Took-one s x t p = (t, p, refl)

  pub Took-append : (s : S) (xs : List X) (u : S) (ys : List X) (t : S) → Took step s xs u → Took step u ys t → Took step s (xs ++ ys) t
  unfolding Took
  Took-append s [] u ys t p q = let P : S → Type 0 = λ v. Took step v ys t in subst P (sym p) q
  Took-append s (x ∷ xs) u ys t p q = (p.0, p.1, Took-append p.0 xs u ys t p.2 q)

module _ {S X : Type 0} (AtOnce : X509Error → Type 0) (step : S → X → Stepped → S → Type 0) where
  -- some errors may come at any moment
  pub StoppedAt-now : (s : S) (xs : List X) (e : X509Error) → AtOnce e → StoppedAt AtOnce step s xs e s
  unfolding StoppedAt
  StoppedAt-now s [] e p = (p, refl)
  StoppedAt-now s (x ∷ xs) e p = inl (p, refl)

  -- one step is refused
  pub StoppedAt-one : (s : S) (x : X) (e : X509Error) (t : S) → step s x (Err e) t → StoppedAt AtOnce step s (x ∷ []) e t
  unfolding StoppedAt
  StoppedAt-one s x e t p = inr (inl p)

  pub StoppedAt-after : (s : S) (xs : List X) (u : S) (ys : List X) (e : X509Error) (t : S) → Took step s xs u → StoppedAt AtOnce step u ys e t → StoppedAt AtOnce step s (xs ++ ys) e t
  unfolding Took StoppedAt
  StoppedAt-after s [] u ys e t p q = let P : S → Type 0 = λ v. StoppedAt AtOnce step v ys e t in subst P (sym p) q
  StoppedAt-after s (x ∷ xs) u ys e t p q = inr (inr (p.0, p.1, StoppedAt-after p.0 xs u ys e t p.2 q))

  pub StoppedAt-before : (s : S) (xs ys : List X) (e : X509Error) (t : S) → StoppedAt AtOnce step s xs e t → StoppedAt AtOnce step s (xs ++ ys) e t
  unfolding StoppedAt
  StoppedAt-before s [] ys e t p = let P : S → Type 0 = λ v. StoppedAt AtOnce step s ys e v in subst P p.1 (StoppedAt-now s ys e p.0)
  StoppedAt-before s (x ∷ xs) ys e t p = elim p [ inl w ↦ inl w | inr w ↦ inr (elim w [ inl v ↦ inl v | inr v ↦ inr (v.0, v.1, StoppedAt-before v.0 xs ys e t v.2) ]) ]

  -- steps that were taken, and then a run
  pub Runs-after : {A : Type 0} → (s : S) (xs : List X) (u : S) (ys : List X) (a : A) (r : Result A X509Error) (t : S) → Took step s xs u → Runs AtOnce step u ys a r t → Runs AtOnce step s (xs ++ ys) a r t
  Runs-after s xs u ys a (Ok w) t p q = (q.0, Took-append step s xs u ys t p q.1)
  Runs-after s xs u ys a (Err e) t p q = StoppedAt-after s xs u ys e t p q

  -- a list of steps that is another one written otherwise
  pub StoppedAt-within : (s u : S) (xs ys zs : List X) (whole part : List X) (e : X509Error) (t : S) → whole ≡ part ++ zs → part ≡ xs ++ ys → Took step s xs u → StoppedAt AtOnce step u ys e t → StoppedAt AtOnce step s whole e t
  StoppedAt-within s u xs ys zs whole part e t split joined p q =
      let P : List X → Type 0 = λ ms. StoppedAt AtOnce step s ms e t in
      subst P (sym split) (StoppedAt-before s part zs e t (subst P (sym joined) (StoppedAt-after s xs u ys e t p q)))

-- ---- runs over the members of a list: each member one step, or each a list of steps

module _ {S X A : Type 0} (step : S → X → Stepped → S → Type 0) where
  map-more : (f : A → X) (xs : List A) (k : ℕ) (d : A) → k < length xs → map f (take (k + 1) xs) ≡ map f (take k xs) ++ f (get_or xs k d) ∷ []
  map-more f xs k d h = rw (take_more xs k d h) (map-append f (take k xs) (get_or xs k d ∷ []))

  flat_map-more : (f : A → List X) (xs : List A) (k : ℕ) (d : A) → k < length xs → flat_map f (take (k + 1) xs) ≡ flat_map f (take k xs) ++ f (get_or xs k d)
  flat_map-more f xs k d h = rw (take_more xs k d h) (flat_map-append f (take k xs) (get_or xs k d ∷ []) ∙ simp append-nil)

  pub Took-map : (f : A → X) (xs : List A) (k : ℕ) (d : A) (s u t : S) → k < length xs → Took step s (map f (take k xs)) u → step u (f (get_or xs k d)) (Ok tt) t → Took step s (map f (take (k + 1) xs)) t
  Took-map f xs k d s u t h p q =
      let P : List X → Type 0 = λ ys. Took step s ys t in
      subst P (sym (map-more f xs k d h)) (Took-append step s (map f (take k xs)) u (f (get_or xs k d) ∷ []) t p (Took-one step u (f (get_or xs k d)) t q))

  pub Took-flat_map : (f : A → List X) (xs : List A) (k : ℕ) (d : A) (s u t : S) → k < length xs → Took step s (flat_map f (take k xs)) u → Took step u (f (get_or xs k d)) t → Took step s (flat_map f (take (k + 1) xs)) t
  Took-flat_map f xs k d s u t h p q =
      let P : List X → Type 0 = λ ys. Took step s ys t in
      subst P (sym (flat_map-more f xs k d h)) (Took-append step s (flat_map f (take k xs)) u (f (get_or xs k d)) t p q)

module _ {S X A : Type 0} (AtOnce : X509Error → Type 0) (step : S → X → Stepped → S → Type 0) where
  pub StoppedAt-map : (f : A → X) (xs : List A) (k : ℕ) (d : A) (s u : S) (e : X509Error) (t : S) → k < length xs → Took step s (map f (take k xs)) u → step u (f (get_or xs k d)) (Err e) t → StoppedAt AtOnce step s (map f xs) e t
  StoppedAt-map f xs k d s u e t h p q =
      let R : List A → Type 0 = λ ys. map f ys ≡ map f (take (k + 1) xs) ++ map f (drop (k + 1) xs) in
      StoppedAt-within AtOnce step s u (map f (take k xs)) (f (get_or xs k d) ∷ []) (map f (drop (k + 1) xs)) (map f xs) (map f (take (k + 1) xs)) e t
      (subst R (take-append-drop (k + 1) xs) (map-append f (take (k + 1) xs) (drop (k + 1) xs))) (map-more step f xs k d h) p
      (StoppedAt-one AtOnce step u (f (get_or xs k d)) e t q)

  pub StoppedAt-flat_map : (f : A → List X) (xs : List A) (k : ℕ) (d : A) (s u : S) (e : X509Error) (t : S) → k < length xs → Took step s (flat_map f (take k xs)) u → StoppedAt AtOnce step u (f (get_or xs k d)) e t → StoppedAt AtOnce step s (flat_map f xs) e t
  StoppedAt-flat_map f xs k d s u e t h p q =
      let R : List A → Type 0 = λ ys. flat_map f ys ≡ flat_map f (take (k + 1) xs) ++ flat_map f (drop (k + 1) xs) in
      StoppedAt-within AtOnce step s u (flat_map f (take k xs)) (f (get_or xs k d)) (flat_map f (drop (k + 1) xs)) (flat_map f xs) (flat_map f (take (k + 1) xs)) e t
      (subst R (take-append-drop (k + 1) xs) (flat_map-append f (take (k + 1) xs) (drop (k + 1) xs))) (flat_map-more step f xs k d h) p q

pub ruleset running = (Took-none, Took-one, StoppedAt-one, Took-append, StoppedAt-after, StoppedAt-before)

-- for visitors
pub ruleset walking = (running, Runs-after, Took-map, StoppedAt-map, Took-flat_map, StoppedAt-flat_map)
