-- Lists under identifiers, with one member more.
use Rattle.std.proofs.Common.{◌≡◌, Bool, true, false, cond, List, [], ◌∷◌, ◌++◌, Option, Some, None, map, filter, unwrap_or, refl, ap, ◌∙◌, append-nil}
use Rattle.std.proofs.lemmas.List.{map-append}
use Rattle.std.proofs.lemmas.List.Elements.{filter-append}
use Rattle.std.specs.Borrow.{Bor}
use Rattle.x509_der.specs.declared.oid.Oid.{Oid}
use Rattle.x509_fields.specs.Groups.{oid_eq, group, grouped, pointed}

group_more : {X : Type 0} (b : Bool) (xs : List X) (x : X) → group (xs ++ cond b (x ∷ []) []) ≡ cond b (Some (unwrap_or (group xs) [] ++ x ∷ [])) (group xs)
unfolding group
group_more true [] x = refl
group_more true (y ∷ xs) x = refl
group_more false [] x = refl
group_more false (y ∷ xs) x = ap (λ ys. Some (y ∷ ys)) (append-nil xs)

map_picked : {M X : Type 0} (b : Bool) (value : M → X) (x : M) → map value (cond b (x ∷ []) []) ≡ cond b (value x ∷ []) []
map_picked true value x = refl
map_picked false value x = refl

pub grouped_more : {M X : Type 0} (id : M → Oid) (value : M → X) (xs : List M) (x : M) (q : Oid) → grouped id value (xs ++ x ∷ []) q ≡ cond (oid_eq (id x) q) (Some (unwrap_or (grouped id value xs q) [] ++ value x ∷ [])) (grouped id value xs q)
unfolding grouped
grouped_more id value xs x q =
    ap group (rw (filter-append (λ y. oid_eq (id y) q) xs (x ∷ []), map-append, map_picked) refl)
    ∙ group_more (oid_eq (id x) q) (map value (filter (λ y. oid_eq (id y) q) xs)) (value x)

pub grouped_none : {M X : Type 0} (id : M → Oid) (value : M → X) (q : Oid) → grouped id value [] q ≡ None
unfolding grouped group
grouped_none id value q = refl

pub pointed_more : {X : Type 0} (b : Bool) (o : Option (List (Bor X))) (r : Bor X) → pointed (cond b (Some (unwrap_or o [] ++ r ∷ [])) o) ≡ cond b (Some (unwrap_or (pointed o) [] ++ r.now ∷ [])) (pointed o)
pointed_more true None r = refl
pointed_more true (Some rs) r = rw map-append refl
pointed_more false o r = refl

pub ruleset grouping = (grouped_more, grouped_none, pointed_more)
