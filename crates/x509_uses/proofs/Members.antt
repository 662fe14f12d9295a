-- The members of a container, by their numbers.
use Rattle.std.proofs.Common.{◌≡◌, ◌<◌, ◌+◌, ◌++◌, ◌∙◌, ℕ, zero, suc, inl, inr, List, [], ◌∷◌, length, map, min, take, Ok, refl, sym, ap, subst, arith}
use Rattle.std.proofs.lemmas.Bool.{cases_lt}
use Rattle.std.proofs.lemmas.List.{take_all}
use Rattle.x509_der.specs.declared.header.Header.{Header}
use Rattle.x509_der.specs.Cut.{EndToEnd}
use Rattle.x509_der.specs.Looks.{behind, place_at}
use Rattle.x509_der.specs.Reading.{Element, Reading, element_at, loose}
use Rattle.x509_der.proofs.Cutting.{behind_elem}
use Rattle.x509_der.proofs.Headers.{elem_is}

abbrev heads : List Element → List Header
heads members = map (λ m. m.header) members

place_shift : (bytes : List ℕ) (k : ℕ) → place_at bytes (suc k) ≡ place_at (behind bytes) k
place_shift bytes zero = refl
place_shift bytes (suc k) = ap behind (place_shift bytes k)

next_head : (bytes : List ℕ) (members : List Element) (tail : List ℕ) → EndToEnd bytes members tail → (k : ℕ) → k < length members
    → (e : Element) (after : List ℕ) → element_at loose (place_at bytes k) ≡ Ok (after, e) → heads (take (suc k) members) ≡ heads (take k members) ++ e.header ∷ []
next_head bytes [] tail chain k lt e after is = absurd (omega (arith, lt))
next_head bytes (d ∷ members) tail chain zero lt e after is =
    let both : ◌≡◌ {A = Reading Element} (Ok (chain.0, d)) (Ok (after, e)) = sym (elem_is loose bytes d chain.0 chain.1) ∙ is in
    let pair : ◌≡◌ {A = List ℕ × Element} (chain.0, d) (after, e) = cc in
    ap (λ (x : List ℕ × Element). x.1.header ∷ []) pair
next_head bytes (d ∷ members) tail chain (suc k) lt e after is =
    let p : place_at bytes (suc k) ≡ place_at chain.0 k = place_shift bytes k ∙ ap (λ b. place_at b k) (behind_elem bytes d chain.0 chain.1) in
    ap (λ (hs : List Header). d.header ∷ hs) (next_head chain.0 members tail chain.2 k (omega (arith, lt)) e after (ap (element_at loose) (sym p) ∙ is))

-- what stands at the place behind so many members is the next of them
pub one_more : (bytes : List ℕ) (members : List Element) (tail : List ℕ) → EndToEnd bytes members tail → (k : ℕ) → k < length members
    → (e : Element) (after : List ℕ) → element_at loose (place_at bytes k) ≡ Ok (after, e) → heads (take (k + 1) members) ≡ heads (take k members) ++ e.header ∷ []
one_more bytes members tail chain k lt e after is =
    let next : suc k ≡ k + 1 = omega arith in
    subst (λ (n : ℕ). heads (take n members) ≡ heads (take k members) ++ e.header ∷ []) next (next_head bytes members tail chain k lt e after is)

-- the first so many of a list are as many of it as there are
pub as_many : {A : Type 0} (xs : List A) (n : ℕ) → take (min (length xs) n) xs ≡ take n xs
as_many {A} xs n =
    elim (cases_lt n (length xs)) [
      | inl lt ↦ let all : min (length xs) n ≡ n = omega (arith, lt) in ap (λ (m : ℕ). take m xs) all
      | inr le ↦
          let all : min (length xs) n ≡ length xs = omega (arith, le) in
          ap (λ (m : ℕ). take m xs) all ∙ take_all (length xs) xs (omega arith) ∙ sym (take_all n xs le)
    ]
