-- One more purpose behind others.
use Rattle.std.proofs.Common.{◌<◌, get_or, drop, Result, Err, ◌≡◌, ℕ, Bool, true, false, not, cond, ◌||◌, ◌⊎◌, inl, inr, ◌+◌, ◌-◌, ◌≤◌, length, sum_by, map, subst, arith, List, [], ◌∷◌, ◌++◌, if◌then◌else◌, ap, sym, refl, ◌∙◌}
use Rattle.std.specs.List.{filter}
use Rattle.std.specs.BTreeMap.{is_at}
use Rattle.std.specs.BTreeSet.{BTreeSet, contains}
use Rattle.std.specs.Str.{bytes_eq}
use Rattle.std.proofs.lemmas.List.{append-nil, map-append}
use Rattle.std.proofs.lemmas.Map.Text.{is_eq-slice_cmp}
use Rattle.std.proofs.lemmas.List.Folds.{list_any-append}
use Rattle.std.proofs.lemmas.List.Elements.{filter-append}
use Rattle.std.proofs.lemmas.List.Sums.{sum_by-cons}
use Rattle.std.proofs.lemmas.Slice.Eq.{bytes_eq-Decides}
use Rattle.std.proofs.lemmas.Bool.Decides.{same_from_decides}
use Rattle.x509_der.specs.declared.oid.Oid.{Oid}
use Rattle.x509_der.specs.declared.error.Err.{Err as Refusal}
use Rattle.x509_der.specs.declared.error.Err.TheVariants as refusals
use Rattle.x509_der.specs.Promises.{Answers}
use Rattle.x509_der.specs.Oid.{oid_bytes}
use Rattle.x509_der.specs.Reading.{AddsAtLeast}
use Rattle.x509_values.specs.ExtendedKeyUsage.{AreBehindFirst, oid_cmp, any_purpose, purpose, named_purposes, holds, each_once, Usages, usages_in, one_if, usages_heads}

or_comm : (a b : Bool) → (a || b) ≡ (b || a)
or_comm true true = refl
or_comm true false = refl
or_comm false true = refl
or_comm false false = refl

or_false : (a : Bool) → (a || false) ≡ a
or_false true = refl
or_false false = refl

holds-append : (ids : List (List ℕ)) (x p : List ℕ) → holds (ids ++ x ∷ []) p ≡ (bytes_eq p x || holds ids p)
holds-append ids x p = list_any-append (bytes_eq p) ids (x ∷ []) ∙ ap (λ b. holds ids p || b) (or_false (bytes_eq p x)) ∙ or_comm (holds ids p) (bytes_eq p x)

-- ---- each once

differs_too : (x e y : List ℕ) → bytes_eq e y ≡ true → bytes_eq x y ≡ false → bytes_eq x e ≡ false
differs_too x e y same apart = go (bytes_eq x e) refl
  where
    go : (b : Bool) → bytes_eq x e ≡ b → b ≡ false
    go false h = refl
    go true h = let is : x ≡ e = (bytes_eq-Decides x e).0 h in let both : bytes_eq x y ≡ bytes_eq e y = ap (λ z. bytes_eq z y) is in absurd cc

keeps : (x y : List ℕ) → bytes_eq x y ≡ false → (ids : List (List ℕ)) → holds (filter (λ o. not (bytes_eq o y)) ids) x ≡ holds ids x
keeps x y apart [] = refl
keeps x y apart (e ∷ es) = go (keeps x y apart es) (bytes_eq e y) refl
  where
    go : holds (filter (λ o. not (bytes_eq o y)) es) x ≡ holds es x → (b : Bool) → bytes_eq e y ≡ b → holds (cond (not b) (e ∷ filter (λ o. not (bytes_eq o y)) es) (filter (λ o. not (bytes_eq o y)) es)) x ≡ (bytes_eq x e || holds es x)
    go rest false h = ap (λ c. bytes_eq x e || c) rest
    go rest true h = rest ∙ ap (λ c. c || holds es x) (sym (differs_too x e y h apart))

holds_once : (ids : List (List ℕ)) (x : List ℕ) → holds (each_once ids) x ≡ holds ids x
holds_once [] x = refl
holds_once (y ∷ ys) x = go (holds_once ys x) (bytes_eq x y) refl
  where
    go : holds (each_once ys) x ≡ holds ys x → (b : Bool) → bytes_eq x y ≡ b → (b || holds (filter (λ o. not (bytes_eq o y)) (each_once ys)) x) ≡ (b || holds ys x)
    go rest true h = refl
    go rest false h = keeps x y h (each_once ys) ∙ rest

each_once-append : (ids : List (List ℕ)) (x : List ℕ) → each_once (ids ++ x ∷ []) ≡ (if holds ids x then each_once ids else each_once ids ++ x ∷ [])
each_once-append [] x = refl
each_once-append (y ∷ ys) x = ap (λ list. y ∷ filter (λ o. not (bytes_eq o y)) list) (each_once-append ys x) ∙ go (holds ys x) (bytes_eq x y) refl
  where
    one : (b : Bool) → bytes_eq x y ≡ b → filter (λ o. not (bytes_eq o y)) (each_once ys ++ x ∷ []) ≡ filter (λ o. not (bytes_eq o y)) (each_once ys) ++ cond (not b) (x ∷ []) []
    one b e = filter-append (λ o. not (bytes_eq o y)) (each_once ys) (x ∷ []) ∙ ap (λ c. filter (λ o. not (bytes_eq o y)) (each_once ys) ++ cond (not c) (x ∷ []) []) e

    go : (h b : Bool) → bytes_eq x y ≡ b
        → y ∷ filter (λ o. not (bytes_eq o y)) (if h then each_once ys else each_once ys ++ x ∷ [])
        ≡ (if (b || h) then y ∷ filter (λ o. not (bytes_eq o y)) (each_once ys) else (y ∷ filter (λ o. not (bytes_eq o y)) (each_once ys)) ++ x ∷ [])
    go true true e = refl
    go true false e = refl
    go false true e = ap (λ list. y ∷ list) (one true e ∙ append-nil (filter (λ o. not (bytes_eq o y)) (each_once ys)))
    go false false e = ap (λ list. y ∷ list) (one false e)

others_in : List (List ℕ) → List (List ℕ)
others_in ids = each_once (filter (λ id. not (holds named_purposes id)) ids)

added : List (List ℕ) → List ℕ → List (List ℕ)
added others x = if holds others x then others else others ++ x ∷ []

others-append : (ids : List (List ℕ)) (x : List ℕ) → others_in (ids ++ x ∷ []) ≡ (if holds named_purposes x then others_in ids else added (others_in ids) x)
unfolding others_in added
others-append ids x = ap each_once (filter-append (λ id. not (holds named_purposes id)) ids (x ∷ [])) ∙ go (holds named_purposes x)
  where
    go : (b : Bool) → each_once (filter (λ id. not (holds named_purposes id)) ids ++ cond (not b) (x ∷ []) []) ≡ (if b then others_in ids else added (others_in ids) x)
    go true = ap each_once (append-nil (filter (λ id. not (holds named_purposes id)) ids))
    go false =
        each_once-append (filter (λ id. not (holds named_purposes id)) ids) x
        ∙ ap (λ h. if h then others_in ids else others_in ids ++ x ∷ []) (sym (holds_once (filter (λ id. not (holds named_purposes id)) ids) x))

-- ---- all of them

abbrev usages : Bool → Bool → Bool → Bool → Bool → Bool → Bool → List (List ℕ) → Usages
usages a b c d e f g o = record { any = a; server_auth = b; client_auth = c; code_signing = d; email_protection = e; time_stamping = f; ocsp_signing = g; other = o }

same_usages : (a a' b b' c c' d d' e e' f f' g g' : Bool) (o o' : List (List ℕ)) → a ≡ a' → b ≡ b' → c ≡ c' → d ≡ d' → e ≡ e' → f ≡ f' → g ≡ g' → o ≡ o' → usages a b c d e f g o ≡ usages a' b' c' d' e' f' g' o'
same_usages a a' b b' c c' d d' e e' f f' g g' o o' h1 h2 h3 h4 h5 h6 h7 h8 = cc

-- with one more purpose
abbrev pub with_purpose : Usages → List ℕ → Usages
with_purpose u x = record {
  any = bytes_eq any_purpose x || u.any;
  server_auth = bytes_eq (purpose 1) x || u.server_auth;
  client_auth = bytes_eq (purpose 2) x || u.client_auth;
  code_signing = bytes_eq (purpose 3) x || u.code_signing;
  email_protection = bytes_eq (purpose 4) x || u.email_protection;
  time_stamping = bytes_eq (purpose 8) x || u.time_stamping;
  ocsp_signing = bytes_eq (purpose 9) x || u.ocsp_signing;
  other = if holds named_purposes x then u.other else if holds u.other x then u.other else u.other ++ x ∷ [];
}

usages_in-append : (ids : List (List ℕ)) (x : List ℕ) → usages_in (ids ++ x ∷ []) ≡ with_purpose (usages_in ids) x
unfolding usages_in others_in added
usages_in-append ids x =
    same_usages _ _ _ _ _ _ _ _ _ _ _ _ _ _ _ _
    (holds-append ids x any_purpose)
    (holds-append ids x (purpose 1))
    (holds-append ids x (purpose 2))
    (holds-append ids x (purpose 3))
    (holds-append ids x (purpose 4))
    (holds-append ids x (purpose 8))
    (holds-append ids x (purpose 9))
    (others-append ids x)

pub named : (old : Usages) (ids : List (List ℕ)) (x c : List ℕ) → old ≡ usages_in ids → x ≡ c → with_purpose old c ≡ usages_in (ids ++ x ∷ [])
named old ids x c e is = ap (λ u. with_purpose u c) e ∙ ap (λ y. with_purpose (usages_in ids) y) (sym is) ∙ sym (usages_in-append ids x)

flipped : (x c : List ℕ) → bytes_eq x c ≡ false → bytes_eq c x ≡ false
flipped x c apart = go (bytes_eq c x) refl
  where
    go : (b : Bool) → bytes_eq c x ≡ b → b ≡ false
    go false h = refl
    go true h = let is : c ≡ x = (bytes_eq-Decides c x).0 h in let both : bytes_eq x c ≡ bytes_eq x x = ap (bytes_eq x) is in let same : bytes_eq x x ≡ true = (bytes_eq-Decides x x).1 refl in absurd cc

either_0 : (a b : Bool) → (a || b) ≡ false → a ≡ false
either_0 false b h = refl
either_0 true b h = absurd cc

either_1 : (a b : Bool) → (a || b) ≡ false → b ≡ false
either_1 false b h = h
either_1 true b h = absurd cc

or_of : (a b : Bool) → a ≡ false → b ≡ (a || b)
or_of a b h = rw h refl

pub other : (old : Usages) (ids : List (List ℕ)) (x : List ℕ) (others : List (List ℕ)) → old ≡ usages_in ids → holds named_purposes x ≡ false → (if holds old.other x then old.other else old.other ++ x ∷ []) ≡ others
    → usages old.any old.server_auth old.client_auth old.code_signing old.email_protection old.time_stamping old.ocsp_signing others ≡ usages_in (ids ++ x ∷ [])
other old ids x others e none new =
    let h1 = either_1 _ _ none in let h2 = either_1 _ _ h1 in let h3 = either_1 _ _ h2 in let h4 = either_1 _ _ h3 in let h5 = either_1 _ _ h4 in let h6 = either_1 _ _ h5 in
    same_usages _ _ _ _ _ _ _ _ _ _ _ _ _ _ _ _
    (or_of _ old.any (flipped x any_purpose (either_0 _ _ none)))
    (or_of _ old.server_auth (flipped x (purpose 1) (either_0 _ _ h1)))
    (or_of _ old.client_auth (flipped x (purpose 2) (either_0 _ _ h2)))
    (or_of _ old.code_signing (flipped x (purpose 3) (either_0 _ _ h3)))
    (or_of _ old.email_protection (flipped x (purpose 4) (either_0 _ _ h4)))
    (or_of _ old.time_stamping (flipped x (purpose 8) (either_0 _ _ h5)))
    (or_of _ old.ocsp_signing (flipped x (purpose 9) (either_0 _ _ h6)))
    (sym new ∙ ap (λ b. if b then old.other else if holds old.other x then old.other else old.other ++ x ∷ []) (sym none))
    ∙ named old ids x x e refl

-- ---- heads

or_le : (a b : Bool) → one_if (a || b) ≤ one_if a + one_if b
or_le true true = omega arith
or_le true false = omega arith
or_le false true = omega arith
or_le false false = omega arith

-- what one purpose adds
weight : List ℕ → ℕ
weight x =
    one_if (bytes_eq any_purpose x) + one_if (bytes_eq (purpose 1) x) + one_if (bytes_eq (purpose 2) x) + one_if (bytes_eq (purpose 3) x)
    + one_if (bytes_eq (purpose 4) x) + one_if (bytes_eq (purpose 8) x) + one_if (bytes_eq (purpose 9) x) + (if holds named_purposes x then 0 else 1)

found : (c x : List ℕ) → (c ≡ x) ⊎ (bytes_eq c x ≡ false)
found c x = go (bytes_eq c x) refl
  where
    go : (b : Bool) → bytes_eq c x ≡ b → (c ≡ x) ⊎ (bytes_eq c x ≡ false)
    go true h = inl ((bytes_eq-Decides c x).0 h)
    go false h = inr h

none_found : (a b c d e f g n : Bool) → a ≡ false → b ≡ false → c ≡ false → d ≡ false → e ≡ false → f ≡ false → g ≡ false
    → one_if a + one_if b + one_if c + one_if d + one_if e + one_if f + one_if g + (if n then 0 else 1) ≤ 1
none_found a b c d e f g true h1 h2 h3 h4 h5 h6 h7 = rw (h1, h2, h3, h4, h5, h6, h7) (omega arith)
none_found a b c d e f g false h1 h2 h3 h4 h5 h6 h7 = rw (h1, h2, h3, h4, h5, h6, h7) (omega arith)

at_most_one : (x : List ℕ) → weight x ≤ 1
unfolding weight
at_most_one x = elim (found any_purpose x) [
  | inl e ↦ subst (λ y. weight y ≤ 1) e (omega arith)
  | inr h1 ↦ elim (found (purpose 1) x) [
    | inl e ↦ subst (λ y. weight y ≤ 1) e (omega arith)
    | inr h2 ↦ elim (found (purpose 2) x) [
      | inl e ↦ subst (λ y. weight y ≤ 1) e (omega arith)
      | inr h3 ↦ elim (found (purpose 3) x) [
        | inl e ↦ subst (λ y. weight y ≤ 1) e (omega arith)
        | inr h4 ↦ elim (found (purpose 4) x) [
          | inl e ↦ subst (λ y. weight y ≤ 1) e (omega arith)
          | inr h5 ↦ elim (found (purpose 8) x) [
            | inl e ↦ subst (λ y. weight y ≤ 1) e (omega arith)
            | inr h6 ↦ elim (found (purpose 9) x) [
              | inl e ↦ subst (λ y. weight y ≤ 1) e (omega arith)
              | inr h7 ↦ none_found _ _ _ _ _ _ _ (holds named_purposes x) h1 h2 h3 h4 h5 h6 h7
            ]
          ]
        ]
      ]
    ]
  ]
]

length-filter : (test : List ℕ → Bool) (xs : List (List ℕ)) → length (filter test xs) ≤ length xs
length-filter test [] = omega arith
length-filter test (x ∷ xs) = go (length-filter test xs) (test x)
  where
    go : length (filter test xs) ≤ length xs → (b : Bool) → length (cond b (x ∷ filter test xs) (filter test xs)) ≤ length (x ∷ xs)
    go rest true = omega arith
    go rest false = omega arith

others-cons : (x : List ℕ) (xs : List (List ℕ)) → length (others_in (x ∷ xs)) ≤ (if holds named_purposes x then 0 else 1) + length (others_in xs)
unfolding others_in
others-cons x xs = go (holds named_purposes x)
  where
    go : (b : Bool) → length (each_once (cond (not b) (x ∷ filter (λ id. not (holds named_purposes id)) xs) (filter (λ id. not (holds named_purposes id)) xs))) ≤ (if b then 0 else 1) + length (others_in xs)
    go true = omega arith
    go false = omega (arith, length-filter (λ o. not (bytes_eq o x)) (each_once (filter (λ id. not (holds named_purposes id)) xs)))

sums : (s o p a0 a1 a2 a3 a4 a5 a6 b0 b1 b2 b3 b4 b5 b6 c0 c1 c2 c3 c4 c5 c6 n : ℕ)
    → a0 ≤ b0 + c0 → a1 ≤ b1 + c1 → a2 ≤ b2 + c2 → a3 ≤ b3 + c3 → a4 ≤ b4 + c4 → a5 ≤ b5 + c5 → a6 ≤ b6 + c6 → o ≤ n + p
    → b0 + b1 + b2 + b3 + b4 + b5 + b6 + n ≤ 1 → 1 + c0 + c1 + c2 + c3 + c4 + c5 + c6 + p ≤ 1 + s → 1 + a0 + a1 + a2 + a3 + a4 + a5 + a6 + o ≤ 1 + (1 + s)
sums s o p a0 a1 a2 a3 a4 a5 a6 b0 b1 b2 b3 b4 b5 b6 c0 c1 c2 c3 c4 c5 c6 n h0 h1 h2 h3 h4 h5 h6 ho hw hs = omega arith

-- no more heads than members
heads_le : (ids : List (List ℕ)) → usages_heads (usages_in ids) ≤ 1 + sum_by (λ id. 1) ids
unfolding usages_in others_in weight
heads_le [] = omega arith
heads_le (x ∷ xs) =
    subst (λ n. usages_heads (usages_in (x ∷ xs)) ≤ 1 + n) (sym (sum_by-cons (λ id. 1) x xs)) (sums _ _ _ _ _ _ _ _ _ _ _ _ _ _ _ _ _ _ _ _ _ _ _ _ _
    (or_le (bytes_eq any_purpose x) (holds xs any_purpose))
    (or_le (bytes_eq (purpose 1) x) (holds xs (purpose 1)))
    (or_le (bytes_eq (purpose 2) x) (holds xs (purpose 2)))
    (or_le (bytes_eq (purpose 3) x) (holds xs (purpose 3)))
    (or_le (bytes_eq (purpose 4) x) (holds xs (purpose 4)))
    (or_le (bytes_eq (purpose 8) x) (holds xs (purpose 8)))
    (or_le (bytes_eq (purpose 9) x) (holds xs (purpose 9)))
    (others-cons x xs)
    (at_most_one x)
    (heads_le xs))

pub least : (ids : List (List ℕ)) (u : Usages) (old new : ℕ) → u ≡ usages_in ids → AddsAtLeast (sum_by (λ id. 1) ids) old new → AddsAtLeast (usages_heads u - 1) old new
least ids u old new e adds = λ small.
    let some : old + sum_by (λ id. 1) ids ≤ new = adds small in
    let few : usages_heads u ≤ 1 + sum_by (λ id. 1) ids = subst (λ v. usages_heads v ≤ 1 + sum_by (λ id. 1) ids) (sym e) (heads_le ids) in
    omega arith

-- ---- a list, and the set of those behind its first

turned : (a b : List ℕ) → bytes_eq a b ≡ bytes_eq b a
turned a b = same_from_decides {P = a ≡ b} (bytes_eq a b) (bytes_eq b a) (bytes_eq-Decides a b) (λ h. sym ((bytes_eq-Decides b a).0 h), λ e. (bytes_eq-Decides b a).1 (sym e))

same_key : (a b : Oid) → is_at (oid_cmp a) b ≡ bytes_eq (oid_bytes b) (oid_bytes a)
same_key a b = is_eq-slice_cmp (oid_bytes a) (oid_bytes b) ∙ turned (oid_bytes a) (oid_bytes b)

cond_or : (b c : Bool) → cond b true c ≡ (b || c)
cond_or true c = refl
cond_or false c = refl

-- an identifier was added behind a list that lacked it
pub record IsAdded (list new : List Oid) (id : Oid) (seen : BTreeSet Oid) : Type 0 where
  pub listed : map oid_bytes new ≡ (if holds (map oid_bytes list) (oid_bytes id) then map oid_bytes list else map oid_bytes list ++ oid_bytes id ∷ [])
  pub behind : AreBehindFirst new seen

alone_in : (list new : List Oid) (id : Oid) (seen : BTreeSet Oid) → length list < 1 → new ≡ list ++ id ∷ [] → AreBehindFirst list seen → IsAdded list new id seen
alone_in [] new id seen none is old = record {
  listed = ap (map oid_bytes) is;
  behind = λ q. old q ∙ ap (λ l. holds (map oid_bytes (drop 1 l)) (oid_bytes q)) (sym is);
}
alone_in (x ∷ xs) new id seen none is old = absurd (omega arith)

behind_in : (list new : List Oid) (id d : Oid) (old seen : BTreeSet Oid) → 0 < length list → bytes_eq (oid_bytes (get_or list 0 d)) (oid_bytes id) ≡ false → contains oid_cmp old id ≡ false
    → ((q : Oid) → contains oid_cmp seen q ≡ cond (is_at (oid_cmp id) q) true (contains oid_cmp old q)) → new ≡ list ++ id ∷ [] → AreBehindFirst list old → IsAdded list new id seen
behind_in [] new id d old seen some apart absent updates is were = absurd (omega arith)
behind_in (x ∷ xs) new id d old seen some apart absent updates is were = record {
  listed = ap (map oid_bytes) is ∙ map-append oid_bytes (x ∷ xs) (id ∷ []) ∙ ap (λ b. if b then map oid_bytes (x ∷ xs) else map oid_bytes (x ∷ xs) ++ oid_bytes id ∷ []) (sym none);
  behind = λ q.
      updates q ∙ ap (λ b. cond b true (contains oid_cmp old q)) (same_key id q) ∙ ap (λ c. cond (bytes_eq (oid_bytes q) (oid_bytes id)) true c) (were q) ∙ cond_or (bytes_eq (oid_bytes q) (oid_bytes id)) (holds (map oid_bytes xs) (oid_bytes q))
      ∙ sym (holds-append (map oid_bytes xs) (oid_bytes id) (oid_bytes q)) ∙ ap (λ l. holds l (oid_bytes q)) (sym (map-append oid_bytes xs (id ∷ []))) ∙ ap (λ l. holds (map oid_bytes (drop 1 l)) (oid_bytes q)) (sym is);
}
  where
    none : holds (map oid_bytes (x ∷ xs)) (oid_bytes id) ≡ false
    none = ap (λ b. b || holds (map oid_bytes xs) (oid_bytes id)) (turned (oid_bytes id) (oid_bytes x) ∙ apart) ∙ sym (were id) ∙ absent

pub alone : (slice list new : List Oid) (id : Oid) (seen : BTreeSet Oid) → slice ≡ list → length slice < 1 → new ≡ list ++ id ∷ [] → AreBehindFirst list seen → IsAdded list new id seen
alone slice list new id seen same none is old = alone_in list new id seen (subst (λ l. length l < 1) same none) is old

not_there : (fresh there : Bool) → fresh ≡ true → fresh ≡ not there → there ≡ false
not_there fresh false h is = refl
not_there fresh true h is = absurd cc

pub behind_others : (slice list new : List Oid) (id d : Oid) (old seen : BTreeSet Oid) (fresh : Bool) → slice ≡ list → 0 < length slice → bytes_eq (oid_bytes (get_or slice 0 d)) (oid_bytes id) ≡ false → fresh ≡ true → fresh ≡ not (contains oid_cmp old id)
    → ((q : Oid) → contains oid_cmp seen q ≡ cond (is_at (oid_cmp id) q) true (contains oid_cmp old q)) → new ≡ list ++ id ∷ [] → AreBehindFirst list old → IsAdded list new id seen
behind_others slice list new id d old seen fresh same some apart h is_new updates is were =
    behind_in list new id d old seen (subst (λ l. 0 < length l) same some) (subst (λ l. bytes_eq (oid_bytes (get_or l 0 d)) (oid_bytes id) ≡ false) same apart) (not_there fresh (contains oid_cmp old id) h is_new) updates is were

-- ---- the loop

pub refused : {Y E : Type 0} (is_memory : E → Bool) (e : Refusal E) (r : Result Y (Refusal E)) → Answers {X = Y} is_memory false (λ y. y) (Err e) r → r ≡ Err e
refused is_memory refusals.Incomplete r given = given
refused is_memory (refusals.Error e) r given = given
refused is_memory (refusals.Failure e) r given = given
