-- The items of members, with the members' numbers.
use Rattle.std.proofs.Common.{◌≡◌, ℕ, zero, suc, ◌<◌, ◌+◌, List, [], ◌∷◌, ◌++◌, length, map, take, get_or, sym, ap, ◌∙◌, arith, append_assoc, add-one}
use Rattle.std.proofs.lemmas.List.{get_or-map, length-map, append-nil}
use Rattle.x509_c.specs.Rows.{numbered, numbered_from}

-- those of one member more
from_more : {X : Type 0} (first : ℕ) (members : List (List X)) (i : ℕ) (items : List X) → i < length members → items ≡ get_or members i items
    → numbered_from first (take (suc i) members) ≡ numbered_from first (take i members) ++ numbered (first + i) items
from_more first [] i items within is = absurd (omega (arith, within))
from_more {X} first (x ∷ members) zero items within is =
    append-nil (numbered first x) ∙ ap (λ (xs : List X). numbered first xs) (sym is) ∙ ap (λ n. numbered n items) (omega arith)
from_more first (x ∷ members) (suc i) items within is =
    rw append_assoc (ap (λ ys. numbered first x ++ ys) (from_more (first + 1) members i items (omega (arith, within)) is ∙ ap (λ n. numbered_from (first + 1) (take i members) ++ numbered n items) (omega arith)))

-- of members that a function takes the items of
pub one_member_more : {M X : Type 0} (own : M → List X) (members : List M) (i : ℕ) (member : M) → i < length members → member ≡ get_or members i member
    → numbered_from 0 (take (i + 1) (map own members)) ≡ numbered_from 0 (take i (map own members)) ++ numbered i (own member)
one_member_more own members i member within is =
    let there : own member ≡ get_or (map own members) i (own member) = ap own is ∙ sym (get_or-map own members i member (own member) within) in
    let more = from_more 0 (map own members) i (own member) (omega (arith, within, length-map members own)) there in
    let number : 0 + i ≡ i = omega arith in
    rw add-one (more ∙ ap (λ n. numbered_from 0 (take i (map own members)) ++ numbered n (own member)) number)

-- the item at an index
pub item_at : {X Y : Type 0} (view : X → Y) (number : ℕ) (items : List X) (i : ℕ) (none : X) (y : ℕ × Y) → i < length items
    → get_or (numbered number (map view items)) i y ≡ (number, view (get_or items i none))
item_at {X} {Y} view number items i none y within =
    get_or-map (λ (a : Y). (number, a)) (map view items) i (view none) y (omega (arith, within, length-map items view))
    ∙ ap (λ (a : Y). (number, a)) (get_or-map view items i none (view none) within)
