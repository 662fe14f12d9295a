-- Runs over the views of a list's members.
use Rattle.std.proofs.Common.{◌≡◌, ℕ, ◌+◌, ◌<◌, Bool, ◌&&◌, List, [], ◌∷◌, ◌++◌, length, map, get_or, take, append-nil, refl, ap, subst, sym, ◌∙◌}
use Rattle.std.specs.List.{flat_map, list_all}
use Rattle.std.proofs.lemmas.List.{map-append}
use Rattle.std.proofs.lemmas.List.Concat.{flat_map-append}
use Rattle.std.proofs.lemmas.List.Folds.{flat_map-map, list_all-map, list_all_more}
use Rattle.x509_fields.specs.declared.error.X509Error.{X509Error}
use Rattle.x509_validators.specs.Findings.{findings, all_sound}
use Rattle.x509_validators.specs.Message.{Message, Logged, WantsMemory}
use Rattle.x509_fields.specs.Steps.{Took, StoppedAt}
use Rattle.x509_validators.proofs.Logs.{memory-wanted}
use Rattle.x509_fields.proofs.Steps.{running, Took-append, StoppedAt-after, StoppedAt-before, Took-flat_map, StoppedAt-flat_map}
use Rattle.x509_validators.proofs.Findings.{Took-findings, StoppedAt-findings, all_sound-more}

module _ {A V X : Type 0} (view : A → V) where
  findings-viewed : (f : List V → V → List X) (before xs : List A) → findings f (map view before) (map view xs) ≡ findings (λ ys y. f (map view ys) (view y)) before xs
  findings-viewed f before [] = refl
  findings-viewed f before (x ∷ xs) =
      let R : List V → Type 0 = λ ys. f (map view before) (view x) ++ findings f ys (map view xs) ≡ f (map view before) (view x) ++ findings (λ ys y. f (map view ys) (view y)) (before ++ x ∷ []) xs in
      subst R (map-append view before (x ∷ [])) (ap (λ ms. f (map view before) (view x) ++ ms) (findings-viewed f (before ++ x ∷ []) xs))

module _ {A V : Type 0} (view : A → V) where
  all_sound-viewed : (p : List V → V → Bool) (before xs : List A) → all_sound p (map view before) (map view xs) ≡ all_sound (λ ys y. p (map view ys) (view y)) before xs
  all_sound-viewed p before [] = refl
  all_sound-viewed p before (x ∷ xs) =
      let R : List V → Type 0 = λ ys. (p (map view before) (view x) && all_sound p ys (map view xs)) ≡ (p (map view before) (view x) && all_sound (λ ys y. p (map view ys) (view y)) (before ++ x ∷ []) xs) in
      subst R (map-append view before (x ∷ [])) (ap (λ b. p (map view before) (view x) && b) (all_sound-viewed p (before ++ x ∷ []) xs))

  -- the test of a beginning takes one member more, of which y is read
  pub all_sound-item : (p : List V → V → Bool) (xs : List A) (k : ℕ) (d : A) (y : V) (so_far passes : Bool) → y ≡ view (get_or xs k d) → k < length xs → so_far ≡ all_sound p [] (map view (take k xs)) → passes ≡ p (map view (take k xs)) y → (so_far && passes) ≡ all_sound p [] (map view (take (k + 1) xs))
  all_sound-item p xs k d y so_far passes is h before now =
      ap (λ b. b && passes) before ∙ ap (λ b. all_sound p [] (map view (take k xs)) && b) (now ∙ ap (p (map view (take k xs))) is)
      ∙ ap (λ b. b && p (map view (take k xs)) (view (get_or xs k d))) (all_sound-viewed p [] (take k xs))
      ∙ sym (all_sound-more (λ ys z. p (map view ys) (view z)) xs k d h) ∙ sym (all_sound-viewed p [] (take (k + 1) xs))

  pub list_all-more-viewed : (p : V → Bool) (xs : List A) (k : ℕ) (d : A) → k < length xs → list_all p (map view (take (k + 1) xs)) ≡ (list_all p (map view (take k xs)) && p (view (get_or xs k d)))
  list_all-more-viewed p xs k d h =
      list_all-map p view (take (k + 1) xs) ∙ list_all_more (λ y. p (view y)) xs k d h ∙ ap (λ b. b && p (view (get_or xs k d))) (sym (list_all-map p view (take k xs)))

  pub list_all-item : (p : V → Bool) (xs : List A) (k : ℕ) (x d : A) (so_far passes : Bool) → x ≡ get_or xs k d → k < length xs → so_far ≡ list_all p (map view (take k xs)) → passes ≡ p (view x) → (so_far && passes) ≡ list_all p (map view (take (k + 1) xs))
  list_all-item p xs k x d so_far passes is h before now =
      ap (λ b. b && passes) before ∙ ap (λ b. list_all p (map view (take k xs)) && b) (now ∙ ap (λ y. p (view y)) is) ∙ sym (list_all-more-viewed p xs k d h)

module _ {L A V : Type 0} (step : L → Message → Logged → L → Type 0) (view : A → V) where
  -- one member more, each with its own messages
  pub Took-viewed : (f : V → List Message) (xs : List A) (k : ℕ) (d : A) (s u t : L) → k < length xs → Took step s (flat_map f (map view (take k xs))) u → Took step u (f (view (get_or xs k d))) t → Took step s (flat_map f (map view (take (k + 1) xs))) t
  Took-viewed f xs k d s u t h p q =
      let P : List Message → Type 0 = λ ms. Took step s ms t in
      let Q : List Message → Type 0 = λ ms. Took step s ms u in
      subst P (sym (flat_map-map f view (take (k + 1) xs))) (Took-flat_map step (λ x. f (view x)) xs k d s u t h (subst Q (flat_map-map f view (take k xs)) p) q)

  pub StoppedAt-viewed : (f : V → List Message) (xs : List A) (k : ℕ) (d : A) (s u : L) (e : X509Error) (t : L) → k < length xs → Took step s (flat_map f (map view (take k xs))) u → StoppedAt WantsMemory step u (f (view (get_or xs k d))) e t → StoppedAt WantsMemory step s (flat_map f (map view xs)) e t
  StoppedAt-viewed f xs k d s u e t h p q =
      let P : List Message → Type 0 = λ ms. StoppedAt WantsMemory step s ms e t in
      let Q : List Message → Type 0 = λ ms. Took step s ms u in
      subst P (sym (flat_map-map f view xs)) (StoppedAt-flat_map WantsMemory step (λ x. f (view x)) xs k d s u e t h (subst Q (flat_map-map f view (take k xs)) p) q)

  -- the same, where a member's messages depend on those before it; y is what is read of the next member
  pub Took-found : (f : List V → V → List Message) (xs : List A) (k : ℕ) (d : A) (y : V) (s u t : L) → y ≡ view (get_or xs k d) → k < length xs → Took step s (findings f [] (map view (take k xs))) u → Took step u (f (map view (take k xs)) y) t → Took step s (findings f [] (map view (take (k + 1) xs))) t
  Took-found f xs k d y s u t is h p q =
      let P : List Message → Type 0 = λ ms. Took step s ms t in
      let Q : List Message → Type 0 = λ ms. Took step s ms u in
      let R : V → Type 0 = λ z. Took step u (f (map view (take k xs)) z) t in
      subst P (sym (findings-viewed view f [] (take (k + 1) xs))) (Took-findings step (λ ys z. f (map view ys) (view z)) xs k d s u t h (subst Q (findings-viewed view f [] (take k xs)) p) (subst R is q))

  pub StoppedAt-found : (f : List V → V → List Message) (xs : List A) (k : ℕ) (d : A) (y : V) (s u : L) (e : X509Error) (t : L) → y ≡ view (get_or xs k d) → k < length xs → Took step s (findings f [] (map view (take k xs))) u → StoppedAt WantsMemory step u (f (map view (take k xs)) y) e t → StoppedAt WantsMemory step s (findings f [] (map view xs)) e t
  StoppedAt-found f xs k d y s u e t is h p q =
      let P : List Message → Type 0 = λ ms. StoppedAt WantsMemory step s ms e t in
      let Q : List Message → Type 0 = λ ms. Took step s ms u in
      let R : V → Type 0 = λ z. StoppedAt WantsMemory step u (f (map view (take k xs)) z) e t in
      subst P (sym (findings-viewed view f [] xs)) (StoppedAt-findings WantsMemory step (λ ys z. f (map view ys) (view z)) xs k d s u e t h (subst Q (findings-viewed view f [] (take k xs)) p) (subst R is q))

  -- the same of an item that is the next member
  pub Took-item : (f : V → List Message) (xs : List A) (k : ℕ) (x d : A) (s u t : L) → x ≡ get_or xs k d → k < length xs → Took step s (flat_map f (map view (take k xs))) u → Took step u (f (view x)) t → Took step s (flat_map f (map view (take (k + 1) xs))) t
  Took-item f xs k x d s u t is h p q = let P : A → Type 0 = λ y. Took step u (f (view y)) t in Took-viewed f xs k d s u t h p (subst P is q)

  pub StoppedAt-item : (f : V → List Message) (xs : List A) (k : ℕ) (x d : A) (s u : L) (e : X509Error) (t : L) → x ≡ get_or xs k d → k < length xs → Took step s (flat_map f (map view (take k xs))) u → StoppedAt WantsMemory step u (f (view x)) e t → StoppedAt WantsMemory step s (flat_map f (map view xs)) e t
  StoppedAt-item f xs k x d s u e t is h p q = let P : A → Type 0 = λ y. StoppedAt WantsMemory step u (f (view y)) e t in StoppedAt-viewed f xs k d s u e t h p (subst P is q)

module _ {L A : Type 0} (step : L → Message → Logged → L → Type 0) where
  -- the same of an iterator: what it gave, and what it still gives
  pub Took-next : (f : A → List Message) (ys : List A) (y : A) (s u t : L) → Took step s (flat_map f ys) u → Took step u (f y) t → Took step s (flat_map f (ys ++ y ∷ [])) t
  Took-next f ys y s u t p q =
      let P : List Message → Type 0 = λ ms. Took step s ms t in
      subst P (sym (flat_map-append f ys (y ∷ []) ∙ simp append-nil)) (Took-append step s (flat_map f ys) u (f y) t p q)

  pub StoppedAt-next : (f : A → List Message) (ys : List A) (y : A) (more whole : List Message) (s u : L) (e : X509Error) (t : L) → whole ≡ flat_map f ys ++ (f y ++ more) → Took step s (flat_map f ys) u → StoppedAt WantsMemory step u (f y) e t → StoppedAt WantsMemory step s whole e t
  StoppedAt-next f ys y more whole s u e t is p q =
      let P : List Message → Type 0 = λ ms. StoppedAt WantsMemory step s ms e t in
      subst P (sym is) (StoppedAt-after WantsMemory step s (flat_map f ys) u (f y ++ more) e t p (StoppedAt-before WantsMemory step u (f y) more e t q))

pub ruleset viewed = (running, memory-wanted, Took-viewed, StoppedAt-viewed, list_all-more-viewed)
