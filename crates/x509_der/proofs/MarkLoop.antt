-- Marking members one after the other, as a loop does.
use Rattle.std.proofs.Common.{◌≡◌, ℕ, zero, suc, ◌-◌, ◌<◌, ◌≤◌, Bool, true, false, ◌&&◌, List, [], ◌∷◌, length, Ok, Err, refl, sym, ap, ◌∙◌, arith}
use Rattle.x509_der.specs.Plan.{Outcome, got, Plan, then_marks, marks_at, marks_of_members, at_least_one}
use Rattle.x509_der.specs.Laws.{IsBytes, Local}
use Rattle.x509_der.proofs.Results.{bytes_behind}
use Rattle.x509_der.proofs.Windows.{local_shorter}
use Rattle.x509_der.proofs.Marked.{and_true, marks_then}

nothing_marked : {F A : Type 0} (p : Plan F A) → (n : ℕ) → IsBytes [] → Local p → marks_at p n [] ≡ true
unfolding marks_at
nothing_marked p zero k hl = refl
nothing_marked {F} {A} p (suc n) k hl = go (p.read []) refl
  where
    go : (r : Outcome F A) → p.read [] ≡ r → then_marks r (λ a next. p.marks [] && marks_at p n next) ≡ true
    go (Ok x) is = absurd (let lt = local_shorter p hl [] x.1 x.0 k is in omega arith)
    go (Err w) is = refl

-- any number that is large enough will do
enough : {F A : Type 0} (p : Plan F A) → Local p → (n m : ℕ) (place : List ℕ) → IsBytes place → length place ≤ n → length place ≤ m → marks_at p n place ≡ marks_at p m place
unfolding marks_at
enough p hl zero m [] k h j = sym (nothing_marked p m k hl)
enough p hl zero m (b ∷ bs) k h j = absurd (omega arith)
enough p hl (suc n) zero [] k h j = nothing_marked p (suc n) k hl
enough p hl (suc n) zero (b ∷ bs) k h j = absurd (omega arith)
enough {F} {A} p hl (suc n) (suc m) place k h j = go (λ between b shorter. enough p hl n m between b (omega arith) (omega arith)) (p.read place) refl
  where
    go : ((between : List ℕ) → IsBytes between → length between < length place → marks_at p n between ≡ marks_at p m between) → (r : Outcome F A) → p.read place ≡ r → then_marks r (λ a next. p.marks place && marks_at p n next) ≡ then_marks r (λ a next. p.marks place && marks_at p m next)
    go more (Ok x) is =
        let s = hl.sentence place x.1 x.0 k is in
        let lt = local_shorter p hl place x.1 x.0 k is in
        ap (λ b. p.marks place && b) (more x.0 (bytes_behind place s.bytes x.0 s.parts k) (omega arith))
    go more (Err w) is = refl

one_more : {F A : Type 0} (p : Plan F A) → Local p → (place : List ℕ) (a : A) (next : List ℕ) → IsBytes place → p.read place ≡ got a next → marks_of_members p place ≡ (p.marks place && marks_of_members p next)
unfolding marks_at marks_of_members
one_more {F} {A} p hl place a next k e =
    let lt = local_shorter p hl place a next k e in
    let s = hl.sentence place a next k e in
    let n : length place ≡ suc (length place - 1) = omega arith in
    ap (λ m. marks_at p m place) n ∙ marks_then (p.read place) (λ a after. p.marks place && marks_at p (length place - 1) after) a next e
    ∙ ap (λ b. p.marks place && b) (enough p hl (length place - 1) (length next) next (bytes_behind place s.bytes next s.parts k) (omega arith) (omega arith))

no_more : {F A : Type 0} (p : Plan F A) → (place : List ℕ) (why : F) → p.read place ≡ Err why → marks_of_members p place ≡ true
unfolding marks_at marks_of_members
no_more {F} {A} p [] why e = refl
no_more {F} {A} p (b ∷ bs) why e = let n : length (b ∷ bs) ≡ suc (length bs) = omega arith in ap (λ m. marks_at p m (b ∷ bs)) n ∙ ap (λ (r : Outcome F A). then_marks r (λ a after. p.marks (b ∷ bs) && marks_at p (length bs) after)) e

and_assoc : (a b c : Bool) → ((a && b) && c) ≡ (a && (b && c))
and_assoc true b c = refl
and_assoc false b c = refl

-- so far, and with one member more
pub marks_go_on : {F A : Type 0} (p : Plan F A) → Local p → (so_far now : Bool) (place : List ℕ) (a : A) (next : List ℕ) (total : Bool) → IsBytes place → p.read place ≡ got a next → now ≡ p.marks place
    → (so_far && marks_of_members p place) ≡ total → ((so_far && now) && marks_of_members p next) ≡ total
marks_go_on p hl so_far now place a next total k e is run =
    and_assoc so_far now (marks_of_members p next) ∙ ap (λ b. so_far && (b && marks_of_members p next)) is ∙ ap (λ b. so_far && b) (sym (one_more p hl place a next k e)) ∙ run

pub marks_stop : {F A : Type 0} (p : Plan F A) → (so_far : Bool) (place : List ℕ) (why : F) (total : Bool) → p.read place ≡ Err why → (so_far && marks_of_members p place) ≡ total → so_far ≡ total
marks_stop p so_far place why total e run = sym (and_true so_far) ∙ ap (λ b. so_far && b) (sym (no_more p place why e)) ∙ run

pub some_marked : {F A : Type 0} (why : F) (xs : List A) (place : List ℕ) → (at_least_one why xs).marks place ≡ true
some_marked why [] place = refl
some_marked why (x ∷ xs) place = refl

-- a first member, and those behind it
pub marks_of_first : {F G A : Type 0} (why : G) (p : Plan F A) → Local p → (first others : Bool) (place : List ℕ) (a : A) (next : List ℕ) (xs : List A) (rest : List ℕ) → IsBytes place → p.read place ≡ got a next
    → first ≡ p.marks place → others ≡ marks_of_members p next → (first && others) ≡ (marks_of_members p place && (at_least_one why xs).marks rest)
marks_of_first why p hl first others place a next xs rest k e is behind =
    ap (λ b. b && others) is ∙ ap (λ b. p.marks place && b) behind ∙ sym (one_more p hl place a next k e)
    ∙ sym (ap (λ b. marks_of_members p place && b) (some_marked why xs rest) ∙ and_true (marks_of_members p place))

pub ruleset marks_of_some = (some_marked, and_true)

pub marks_at_end : {F A : Type 0} (p : Plan F A) → (so_far : Bool) (rest : List ℕ) (total : Bool) → length rest ≡ 0 → (so_far && marks_of_members p rest) ≡ total → so_far ≡ total
unfolding marks_at marks_of_members
marks_at_end p so_far [] total e run = sym (and_true so_far) ∙ run
marks_at_end p so_far (b ∷ bs) total e run = absurd (omega arith)
