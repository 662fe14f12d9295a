-- The map of the first members of a list.
use Rattle.std.proofs.Common.{◌≡◌, ℕ, ◌+◌, ◌<◌, Bool, true, false, not, ◌&&◌, ◌||◌, List, [], ◌∷◌, ◌++◌, Option, Some, None, length, get_or, take, drop, refl, sym, ap, ◌∙◌, append-nil, append_assoc, is_some, cond}
use Rattle.std.specs.List.{find, list_any}
use Rattle.std.specs.Option.{option_or, option_copied}
use Rattle.std.specs.Borrow.{Bor}
use Rattle.std.proofs.lemmas.List.{take_more, take-append-drop}
use Rattle.std.proofs.lemmas.List.Folds.{find-append}
use Rattle.std.proofs.lemmas.Slice.Eq.{bytes_eq-Decides}
use Rattle.std.proofs.Math.Bool.{and_assoc, and-true}
use Rattle.std.proofs.lemmas.Bool.{and_left, and_right, and_from}
use Rattle.x509_der.specs.declared.oid.Oid.{Oid}
use Rattle.x509_der.specs.Oid.{oid_bytes}
use Rattle.x509_fields.specs.Groups.{oid_eq}
use Rattle.x509_extensions.specs.Lookups.{has_id, distinct_after, distinct_by}

distinct_after-append : {X : Type 0} (oid_of : X → Oid) (before xs ys : List X) → distinct_after oid_of before (xs ++ ys) ≡ (distinct_after oid_of before xs && distinct_after oid_of (before ++ xs) ys)
unfolding distinct_after
distinct_after-append oid_of before [] ys = simp append-nil
distinct_after-append oid_of before (x ∷ xs) ys = simp (distinct_after-append oid_of (before ++ x ∷ []) xs ys, append_assoc, and_assoc)

pub distinct_by-more : {X : Type 0} (oid_of : X → Oid) (xs : List X) (k : ℕ) (d : X) → k < length xs → distinct_by oid_of (take (k + 1) xs) ≡ (distinct_by oid_of (take k xs) && not (list_any (has_id oid_of (oid_bytes (oid_of (get_or xs k d)))) (take k xs)))
unfolding distinct_after
distinct_by-more oid_of xs k d h = rw (take_more xs k d h) (distinct_after-append oid_of [] (take k xs) (get_or xs k d ∷ []) ∙ simp and-true)

-- an identifier that stands twice
pub distinct_by-not : {X : Type 0} (oid_of : X → Oid) (xs : List X) (k : ℕ) (d : X) → k < length xs → list_any (has_id oid_of (oid_bytes (oid_of (get_or xs k d)))) (take k xs) ≡ true → distinct_by oid_of xs ≡ false
distinct_by-not oid_of xs k d h e =
    ap (distinct_by oid_of) (sym (take-append-drop (k + 1) xs))
    ∙ (distinct_after-append oid_of [] (take (k + 1) xs) (drop (k + 1) xs)
    ∙ and_left _ _ (distinct_by-more oid_of xs k d h ∙ and_right _ _ (ap not e)))

any_step : {X : Type 0} (b c : Bool) (x : X) (o : Option X) → c ≡ is_some o → (b || c) ≡ is_some (cond b (Some x) o)
any_step true c x o e = refl
any_step false c x o e = e

-- a member passes exactly where one is found
pub any-found : {X : Type 0} (p : X → Bool) (xs : List X) → list_any p xs ≡ is_some (find p xs)
any-found p [] = refl
any-found p (x ∷ xs) = any_step (p x) (list_any p xs) x (find p xs) (any-found p xs)

pick : {X : Type 0} (b : Bool) (x : X) (o : Option X) → (b ≡ true → o ≡ None) → cond b (Some x) o ≡ option_or o (cond b (Some x) None)
pick true x o h = rw (h refl) refl
pick false x None h = refl
pick false x (Some y) h = refl

-- the map with one member more is the map of one member more
pub found-more : {X : Type 0} (oid_of : X → Oid) (m n : Oid → Option X) (xs : List X) (k : ℕ) (d : X) → k < length xs → ((q : Oid) → m q ≡ find (has_id oid_of (oid_bytes q)) (take k xs)) → ((q : Oid) → n q ≡ cond (oid_eq (oid_of (get_or xs k d)) q) (Some (get_or xs k d)) (m q)) → m (oid_of (get_or xs k d)) ≡ None → (q : Oid) → n q ≡ find (has_id oid_of (oid_bytes q)) (take (k + 1) xs)
unfolding has_id
found-more oid_of m n xs k d h was is none q =
    let x = get_or xs k d in
    let same : oid_eq (oid_of x) q ≡ true → m q ≡ None = λ t.
    was q ∙ (ap (λ id. find (has_id oid_of id) (take k xs)) (sym ((bytes_eq-Decides (oid_bytes (oid_of x)) (oid_bytes q)).0 t)) ∙ (sym (was (oid_of x)) ∙ none))
    in is q ∙ (pick (oid_eq (oid_of x) q) x (m q) same
    ∙ (ap (λ o. option_or o (cond (oid_eq (oid_of x) q) (Some x) None)) (was q)
    ∙ (sym (find-append (has_id oid_of (oid_bytes q)) (take k xs) (x ∷ []))
    ∙ ap (find (has_id oid_of (oid_bytes q))) (sym (take_more xs k d h)))))

pointed_some : {X : Type 0} (o : Option (Bor X)) → is_some (option_copied o) ≡ is_some o
pointed_some None = refl
pointed_some (Some r) = refl

pointed_none : {X : Type 0} (o : Option (Bor X)) → is_some o ≡ false → option_copied o ≡ None
pointed_none None e = refl
pointed_none (Some r) e = cc

pointed_cond : {X : Type 0} (b : Bool) (r : Bor X) (o : Option (Bor X)) → option_copied (cond b (Some r) o) ≡ cond b (Some r.now) (option_copied o)
pointed_cond true r o = refl
pointed_cond false r o = refl

-- whether the map has the identifier says whether it stood before
pub stood : {X : Type 0} (o : Option (Bor X)) (p : X → Bool) (xs : List X) → option_copied o ≡ find p xs → list_any p xs ≡ is_some o
stood o p xs e = any-found p xs ∙ (ap is_some (sym e) ∙ pointed_some o)

pub map-more : {X : Type 0} (oid_of : X → Oid) (m n : Oid → Option (Bor X)) (xs : List X) (k : ℕ) (d : X) (r : Bor X) → k < length xs → r.now ≡ get_or xs k d → ((q : Oid) → option_copied (m q) ≡ find (has_id oid_of (oid_bytes q)) (take k xs)) → ((q : Oid) → n q ≡ cond (oid_eq (oid_of (get_or xs k d)) q) (Some r) (m q)) → is_some (m (oid_of (get_or xs k d))) ≡ false → (q : Oid) → option_copied (n q) ≡ find (has_id oid_of (oid_bytes q)) (take (k + 1) xs)
map-more oid_of m n xs k d r h here was is none =
    found-more oid_of (λ q. option_copied (m q)) (λ q. option_copied (n q)) xs k d h was
    (λ q. ap option_copied (is q) ∙ (pointed_cond (oid_eq (oid_of (get_or xs k d)) q) r (m q) ∙ ap (λ x. cond (oid_eq (oid_of (get_or xs k d)) q) (Some x) (option_copied (m q))) here))
    (pointed_none (m (oid_of (get_or xs k d))) none)

-- the same of a member by another name
pub map-more-item : {X : Type 0} (oid_of : X → Oid) (m n : Oid → Option (Bor X)) (xs : List X) (k : ℕ) (x : X) (r : Bor X) → k < length xs → x ≡ get_or xs k x → r.now ≡ x → ((q : Oid) → option_copied (m q) ≡ find (has_id oid_of (oid_bytes q)) (take k xs)) → ((q : Oid) → n q ≡ cond (oid_eq (oid_of x) q) (Some r) (m q)) → is_some (m (oid_of x)) ≡ false → (q : Oid) → option_copied (n q) ≡ find (has_id oid_of (oid_bytes q)) (take (k + 1) xs)
map-more-item {X = X} oid_of m n xs k x r h is here was more none =
    map-more oid_of m n xs k x r h (here ∙ is) was
    (λ q. more q ∙ ap (λ (y : X). cond (oid_eq (oid_of y) q) (Some r) (m q)) is)
    (ap (λ (y : X). is_some (m (oid_of y))) (sym is) ∙ none)

-- a member that the map did not have keeps the identifiers apart
pub distinct-more : {X : Type 0} (oid_of : X → Oid) (m : Oid → Option (Bor X)) (xs : List X) (k : ℕ) (d : X) → k < length xs → distinct_by oid_of (take k xs) ≡ true → ((q : Oid) → option_copied (m q) ≡ find (has_id oid_of (oid_bytes q)) (take k xs)) → is_some (m (oid_of (get_or xs k d))) ≡ false → distinct_by oid_of (take (k + 1) xs) ≡ true
distinct-more oid_of m xs k d h e was new =
    let x = get_or xs k d in
    distinct_by-more oid_of xs k d h ∙ and_from _ _ e (ap not (stood (m (oid_of x)) (has_id oid_of (oid_bytes (oid_of x))) (take k xs) (was (oid_of x)) ∙ new))

-- a member that the map had does not
pub distinct-not : {X : Type 0} (oid_of : X → Oid) (m : Oid → Option (Bor X)) (xs : List X) (k : ℕ) (d : X) → k < length xs → ((q : Oid) → option_copied (m q) ≡ find (has_id oid_of (oid_bytes q)) (take k xs)) → is_some (m (oid_of (get_or xs k d))) ≡ true → distinct_by oid_of xs ≡ false
distinct-not oid_of m xs k d h was old =
    let x = get_or xs k d in
    distinct_by-not oid_of xs k d h (stood (m (oid_of x)) (has_id oid_of (oid_bytes (oid_of x))) (take k xs) (was (oid_of x)) ∙ old)
