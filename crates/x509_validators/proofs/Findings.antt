-- What is found at a beginning of a list, and at one member more; and the steps that tell it.
use Rattle.std.proofs.Common.{◌≡◌, ℕ, ◌+◌, ◌<◌, Bool, ◌&&◌, List, [], ◌∷◌, ◌++◌, length, get_or, take, drop, append_assoc, append-nil, subst, sym, ◌∙◌}
use Rattle.std.proofs.lemmas.List.{take_more, take-append-drop}
use Rattle.std.proofs.Math.Bool.{and_assoc, and-true}
use Rattle.x509_fields.specs.declared.error.X509Error.{X509Error}
use Rattle.x509_fields.specs.Steps.{Stepped, Took, StoppedAt}
use Rattle.x509_fields.proofs.Steps.{Took-append, StoppedAt-within}
use Rattle.x509_validators.specs.Findings.{findings, all_sound}

module _ {A X : Type 0} where
  pub findings-append : (f : List A → A → List X) (before xs ys : List A) → findings f before (xs ++ ys) ≡ findings f before xs ++ findings f (before ++ xs) ys
  findings-append f before [] ys = simp append-nil
  findings-append f before (x ∷ xs) ys = simp (findings-append f (before ++ x ∷ []) xs ys, append_assoc)

  pub findings-more : (f : List A → A → List X) (xs : List A) (k : ℕ) (d : A) → k < length xs → findings f [] (take (k + 1) xs) ≡ findings f [] (take k xs) ++ f (take k xs) (get_or xs k d)
  findings-more f xs k d h = rw (take_more xs k d h) (findings-append f [] (take k xs) (get_or xs k d ∷ []) ∙ simp append-nil)

module _ {A : Type 0} where
  all_sound-append : (p : List A → A → Bool) (before xs ys : List A) → all_sound p before (xs ++ ys) ≡ (all_sound p before xs && all_sound p (before ++ xs) ys)
  all_sound-append p before [] ys = simp append-nil
  all_sound-append p before (x ∷ xs) ys = simp (all_sound-append p (before ++ x ∷ []) xs ys, append_assoc, and_assoc)

  -- the test of a beginning takes one member more
  pub all_sound-more : (p : List A → A → Bool) (xs : List A) (k : ℕ) (d : A) → k < length xs → all_sound p [] (take (k + 1) xs) ≡ (all_sound p [] (take k xs) && p (take k xs) (get_or xs k d))
  all_sound-more p xs k d h = rw (take_more xs k d h) (all_sound-append p [] (take k xs) (get_or xs k d ∷ []) ∙ simp and-true)

-- ---- runs over the members of a list, each what is found there

module _ {S X A : Type 0} (step : S → X → Stepped → S → Type 0) where
  pub Took-findings : (f : List A → A → List X) (xs : List A) (k : ℕ) (d : A) (s u t : S) → k < length xs → Took step s (findings f [] (take k xs)) u → Took step u (f (take k xs) (get_or xs k d)) t → Took step s (findings f [] (take (k + 1) xs)) t
  Took-findings f xs k d s u t h p q =
      let P : List X → Type 0 = λ ys. Took step s ys t in
      subst P (sym (findings-more f xs k d h)) (Took-append step s (findings f [] (take k xs)) u (f (take k xs) (get_or xs k d)) t p q)

module _ {S X A : Type 0} (AtOnce : X509Error → Type 0) (step : S → X → Stepped → S → Type 0) where
  pub StoppedAt-findings : (f : List A → A → List X) (xs : List A) (k : ℕ) (d : A) (s u : S) (e : X509Error) (t : S) → k < length xs → Took step s (findings f [] (take k xs)) u → StoppedAt AtOnce step u (f (take k xs) (get_or xs k d)) e t → StoppedAt AtOnce step s (findings f [] xs) e t
  StoppedAt-findings f xs k d s u e t h p q =
      let R : List A → Type 0 = λ ys. findings f [] ys ≡ findings f [] (take (k + 1) xs) ++ findings f (take (k + 1) xs) (drop (k + 1) xs) in
      StoppedAt-within AtOnce step s u (findings f [] (take k xs)) (f (take k xs) (get_or xs k d)) (findings f (take (k + 1) xs) (drop (k + 1) xs)) (findings f [] xs) (findings f [] (take (k + 1) xs)) e t
      (subst R (take-append-drop (k + 1) xs) (findings-append f [] (take (k + 1) xs) (drop (k + 1) xs))) (findings-more f xs k d h) p q
