-- The least position of a number: in a list, and among the entries of an index in any order.
use Rattle.std.proofs.Common.{◌≡◌, ℕ, suc, ◌≤◌, ◌+◌, ◌==◌, Bool, true, false, cond, List, [], ◌∷◌, ◌++◌, length, Option, Some, None, refl, sym, ap, subst, ◌∙◌, arith}
use Rattle.std.specs.List.{All, Contains, position_from}
use Rattle.std.specs.List.Sorted.{IsPermutation}
use Rattle.std.proofs.lemmas.Iterator.Adapters.{position_from-zero}
use Rattle.std.proofs.lemmas.List.Elements.{All-nil, All-cons, All-weaker, All-contains}
use Rattle.std.proofs.lemmas.List.Sorted.{All-permutation, Contains-permutation}
use Rattle.std.proofs.lemmas.Bool.Decides.{nat_tests}
use Rattle.x509_lists.specs.FindRevoked.{first_of}
use Rattle.x509_revoked.specs.Entries.{Indexed, indexed_from, position_in}

abbrev pub Lacks : ℕ → Indexed → Type 0
Lacks n x = x.number ≡ n → ⊥

abbrev pub IsBehind : ℕ → ℕ → Indexed → Type 0
IsBehind n p x = x.number ≡ n → p ≤ x.position

-- this position, or none, is the least of the number's among these
abbrev pub IsLeast : List Indexed → ℕ → Option ℕ → Type 0
IsLeast xs n None = All (Lacks n) xs
IsLeast xs n (Some p) = Contains xs (record { number = n; position = p }) × All (IsBehind n p) xs

pub least_only : (xs : List Indexed) (n : ℕ) (a b : Option ℕ) → IsLeast xs n a → IsLeast xs n b → a ≡ b
least_only xs n None None x y = refl
least_only xs n None (Some q) x y = absurd (All-contains (Lacks n) xs (record { number = n; position = q }) x y.0 refl)
least_only xs n (Some p) None x y = absurd (All-contains (Lacks n) xs (record { number = n; position = p }) y x.0 refl)
least_only xs n (Some p) (Some q) x y =
    let under : p ≤ q = All-contains (IsBehind n p) xs (record { number = n; position = q }) x.1 y.0 refl in
    let over : q ≤ p = All-contains (IsBehind n q) xs (record { number = n; position = p }) y.1 x.0 refl in
    ap Some (omega (arith, under, over))

pub least_moved : (xs ys : List Indexed) (n : ℕ) (o : Option ℕ) → IsPermutation xs ys → IsLeast xs n o → IsLeast ys n o
least_moved xs ys n None same x = All-permutation (Lacks n) xs ys same x
least_moved xs ys n (Some p) same x = (Contains-permutation xs ys (record { number = n; position = p }) same x.0, All-permutation (IsBehind n p) xs ys same x.1)

-- ---- one more in front

contains_head : (x : Indexed) (xs : List Indexed) → Contains (x ∷ xs) x
contains_head x xs = (0, omega arith, refl)

contains_tail : (y x : Indexed) (xs : List Indexed) → Contains xs x → Contains (y ∷ xs) x
contains_tail y x xs h = (suc h.0, omega (arith, h.1), h.2)

least_head : (x : Indexed) (xs : List Indexed) (n : ℕ) → x.number ≡ n → All (IsBehind n x.position) xs → IsLeast (x ∷ xs) n (Some x.position)
least_head x xs n same after = (subst (λ m. Contains (x ∷ xs) (record { number = m; position = x.position })) same (contains_head x xs), All-cons (IsBehind n x.position) x xs (λ _. omega arith) after)

least_tail : (x : Indexed) (xs : List Indexed) (n : ℕ) (o : Option ℕ) → (x.number ≡ n → ⊥) → IsLeast xs n o → IsLeast (x ∷ xs) n o
least_tail x xs n None other h = All-cons (Lacks n) x xs other h
least_tail x xs n (Some p) other h = (contains_tail x (record { number = n; position = p }) xs h.0, All-cons (IsBehind n p) x xs (λ same. absurd (other same)) h.1)

-- ---- in a list

pub indexed_more : (k : ℕ) (ns : List ℕ) (n : ℕ) → indexed_from k (ns ++ n ∷ []) ≡ indexed_from k ns ++ record { number = n; position = k + length ns } ∷ []
indexed_more k [] n = ap (λ p. record { number = n; position = p } ∷ []) (omega arith)
indexed_more k (m ∷ ns) n =
    ap (λ xs. record { number = m; position = k } ∷ xs)
    (indexed_more (k + 1) ns n ∙ ap (λ p. indexed_from (k + 1) ns ++ record { number = n; position = p } ∷ []) (omega arith))

pub length_indexed : (k : ℕ) (ns : List ℕ) → length (indexed_from k ns) ≡ length ns
length_indexed k [] = refl
length_indexed k (n ∷ ns) = ap suc (length_indexed (k + 1) ns)

abbrev IsFrom : ℕ → Indexed → Type 0
IsFrom k x = k ≤ x.position

from_on : (k : ℕ) (ns : List ℕ) → All (IsFrom k) (indexed_from k ns)
from_on k [] = All-nil (IsFrom k)
from_on k (n ∷ ns) = All-cons (IsFrom k) (record { number = n; position = k }) (indexed_from (k + 1) ns) (omega arith) (All-weaker (IsFrom (k + 1)) (IsFrom k) (λ x h. omega (arith, h)) (indexed_from (k + 1) ns) (from_on (k + 1) ns))

least_from_test : (k m : ℕ) (ns : List ℕ) (n : ℕ) → IsLeast (indexed_from (k + 1) ns) n (position_from (λ x. x == n) (k + 1) ns) → (b : Bool) → (m == n) ≡ b
    → IsLeast (indexed_from k (m ∷ ns)) n (cond b (Some k) (position_from (λ x. x == n) (k + 1) ns))
least_from_test k m ns n after true e =
    let same : m ≡ n = grind (arith, nat_tests, e) in
    least_head (record { number = m; position = k }) (indexed_from (k + 1) ns) n same (All-weaker (IsFrom (k + 1)) (IsBehind n k) (λ x h _. omega (arith, h)) (indexed_from (k + 1) ns) (from_on (k + 1) ns))
least_from_test k m ns n after false e =
    let other : m ≡ n → ⊥ = λ same. grind (arith, nat_tests, e, same) in
    least_tail (record { number = m; position = k }) (indexed_from (k + 1) ns) n (position_from (λ x. x == n) (k + 1) ns) other after

first_is_least_from : (k : ℕ) (ns : List ℕ) (n : ℕ) → IsLeast (indexed_from k ns) n (position_from (λ x. x == n) k ns)
first_is_least_from k [] n = All-nil (Lacks n)
first_is_least_from k (m ∷ ns) n = least_from_test k m ns n (first_is_least_from (k + 1) ns n) (m == n) refl

first_is_least : (ns : List ℕ) (n : ℕ) → IsLeast (indexed_from 0 ns) n (first_of ns n)
first_is_least ns n = subst (IsLeast (indexed_from 0 ns) n) (sym (position_from-zero (λ x. x == n) ns)) (first_is_least_from 0 ns n)

-- ---- among entries in order

-- those of one number stand in order of their positions
abbrev pub AreTiesInOrder : List Indexed → Type 0
AreTiesInOrder [] = Unit {0}
AreTiesInOrder (x ∷ xs) = All (IsBehind x.number x.position) xs × AreTiesInOrder xs

position_test : (x : Indexed) (xs : List Indexed) (n : ℕ) → All (IsBehind x.number x.position) xs → IsLeast xs n (position_in xs n) → (b : Bool) → (x.number == n) ≡ b
    → IsLeast (x ∷ xs) n (cond b (Some x.position) (position_in xs n))
position_test x xs n behind after true e =
    let same : x.number ≡ n = grind (arith, nat_tests, e) in
    least_head x xs n same (All-weaker (IsBehind x.number x.position) (IsBehind n x.position) (λ y h is. h (is ∙ sym same)) xs behind)
position_test x xs n behind after false e =
    let other : x.number ≡ n → ⊥ = λ same. grind (arith, nat_tests, e, same) in
    least_tail x xs n (position_in xs n) other after

position_is_least : (xs : List Indexed) (n : ℕ) → AreTiesInOrder xs → IsLeast xs n (position_in xs n)
position_is_least [] n ties = All-nil (Lacks n)
position_is_least (x ∷ xs) n ties = position_test x xs n ties.0 (position_is_least xs n ties.1) (x.number == n) refl

-- entries in order, of a list's numbers with their positions, answer as the list
pub answers_first : (xs : List Indexed) (ns : List ℕ) → IsPermutation (indexed_from 0 ns) xs → AreTiesInOrder xs → (n : ℕ) → position_in xs n ≡ first_of ns n
answers_first xs ns same ties n =
    least_only xs n (position_in xs n) (first_of ns n) (position_is_least xs n ties) (least_moved (indexed_from 0 ns) xs n (first_of ns n) same (first_is_least ns n))

-- two lists of the same entries, each with those of one number in order of their positions, answer alike
pub same_answers : (xs ys : List Indexed) → IsPermutation ys xs → AreTiesInOrder xs → AreTiesInOrder ys → (n : ℕ) → position_in xs n ≡ position_in ys n
same_answers xs ys same ties_x ties_y n =
    least_only xs n (position_in xs n) (position_in ys n) (position_is_least xs n ties_x) (least_moved ys xs n (position_in ys n) same (position_is_least ys n ties_y))
