-- What is still to come, behind each step of the walk.
use Rattle.std.proofs.Common.{◌≡◌, ℕ, ◌+◌, ◌-◌, ◌<◌, ◌≤◌, Bool, true, false, cond, List, [], ◌∷◌, ◌++◌, length, reverse, take, drop, Ok, Err, refl, sym, ap, ◌∙◌, arith, length-take, length-drop, append-nil, append_assoc}
use Rattle.std.proofs.lemmas.List.{drop-drop, drop-take, reverse-append, take-take, take_all}
use Rattle.x509_der.specs.declared.error.BerError.{BerError}
use Rattle.x509_der.specs.declared.error.Err.{Err as Refusal}
use Rattle.x509_elements.specs.declared.open.Open.{Open}
use Rattle.x509_elements.specs.Elements.{Line, Spot, behind, element_line, elements_of, inside, lines_at, refused_line, spot_behind, spot_inside}
use Rattle.x509_elements.specs.Fronts.{Front, front_at}
use Rattle.x509_elements.specs.Nested.{AreNested}
use Rattle.x509_elements.specs.Walks.{still, window}
use Rattle.x509_elements.proofs.Elements.{at_element, at_nothing, at_refused}
use Rattle.x509_elements.proofs.Fronts.{front_fits}
use Rattle.x509_elements.specs.Cursors.{alone, first_of, standing_of}
use Rattle.x509_elements.specs.declared.part.Part.{Part}

-- the open elements lie within the octets
pub nested_within : (at : ℕ) (os : List Open) (size : ℕ) → AreNested at os size → at ≤ size
nested_within at [] size k = k
nested_within at (o ∷ os) size k = omega (arith, k.0, nested_within o.end os size k.2)

abbrev spot : ℕ → List Open → Open → Spot
spot at os o = record { offset = at; depth = length os; standing = standing_of o.cursor }

-- ---- windows of windows

pub window_size : (octets : List ℕ) (at end : ℕ) → end ≤ length octets → length (window octets at end) ≡ end - at
window_size octets at end within = omega (arith, within, length-take (end - at) (drop at octets), length-drop at octets)

later : (octets : List ℕ) (at end n : ℕ) → at + n ≤ end → drop n (window octets at end) ≡ window octets (at + n) end
later octets at end n h =
    let size : end - at ≡ n + (end - (at + n)) = omega arith in
    ap (λ k. drop n (take k (drop at octets))) size
    ∙ drop-take n (end - (at + n)) (drop at octets)
    ∙ ap (take (end - (at + n))) (drop-drop n at octets)

shorter : (octets : List ℕ) (at end less : ℕ) → less ≤ end → take (less - at) (window octets at end) ≡ window octets at less
shorter octets at end less h = take-take (less - at) (end - at) (drop at octets) (omega arith)

pub front_of_window : (octets : List ℕ) (at end n : ℕ) → at + n ≤ end → take n (window octets at end) ≡ window octets at (at + n)
front_of_window octets at end n h =
    let size : n ≡ at + n - at = omega arith in
    ap (λ k. take k (window octets at end)) size ∙ shorter octets at end (at + n) h

-- ---- the steps

-- the octets themselves, before the first line
pub at_start : (octets : List ℕ) (object : Part) (o : Open) (os : List Open) → os ≡ [] → o.end ≡ length octets → standing_of o.cursor ≡ alone object → still octets 0 (o ∷ os) ≡ elements_of object octets
unfolding still elements_of
at_start octets object o os none ends first =
    let all : window octets 0 o.end ≡ octets = take_all (o.end - 0) octets (omega arith) in
    ap (λ ps. still octets 0 (o ∷ ps)) none
    ∙ append-nil (lines_at (spot 0 [] o) (window octets 0 o.end))
    ∙ ap (lines_at (spot 0 [] o)) all
    ∙ ap (λ s. lines_at (record { offset = 0; depth = 0; standing = s }) octets) first

-- the innermost element ends here
pub left_behind : (octets : List ℕ) (at : ℕ) (o : Open) (os : List Open) → at ≡ o.end → still octets at (o ∷ os) ≡ still octets at os
unfolding still
left_behind octets at o os over =
    let none : o.end - at ≡ 0 = omega arith in
    ap (λ n. lines_at (spot at os o) (take n (drop at octets)) ++ still octets o.end os) none
    ∙ ap (λ (ls : List Line). ls ++ still octets o.end os) (at_nothing (spot at os o))
    ∙ ap (λ n. still octets n os) (sym over)

pub none_open : (octets : List ℕ) (at : ℕ) → still octets at [] ≡ []
unfolding still
none_open octets at = refl

-- no header can be read: what is left of the innermost element is one line
pub refused_step : (octets : List ℕ) (at : ℕ) (o : Open) (os : List Open) (why : Refusal BerError) → at < o.end → o.end ≤ length octets
    → front_at (standing_of o.cursor) (window octets at o.end) ≡ Err why
    → still octets at (o ∷ os) ≡ refused_line (spot at os o) (window octets at o.end) why ∷ still octets o.end (o ∷ os)
unfolding still
refused_step octets at o os why some within e =
    let size : 0 < length (window octets at o.end) = omega (arith, window_size octets at o.end within) in
    ap (λ (ls : List Line). ls ++ still octets o.end os) (at_refused (spot at os o) (window octets at o.end) why size e)
    ∙ ap (λ (ls : List Line). refused_line (spot at os o) (window octets at o.end) why ∷ ls) (sym (left_behind octets o.end o os refl))

-- an element: what stands in it comes next, and then what stands behind it
pub element_step : (octets : List ℕ) (at : ℕ) (o : Open) (os : List Open) (f : Front) (inner around : Open) → at < o.end → o.end ≤ length octets
    → front_at (standing_of o.cursor) (window octets at o.end) ≡ Ok f
    → inner.end ≡ at + f.size + f.there → standing_of inner.cursor ≡ first_of f.called.part → around.end ≡ o.end → standing_of around.cursor ≡ f.next
    → still octets at (o ∷ os) ≡ element_line (spot at os o) (window octets at o.end) f ∷ still octets (at + f.own) (inner ∷ around ∷ os)
unfolding still
element_step octets at o os f inner around some within e ends first same next =
    let p = spot at os o in
    let w = window octets at o.end in
    let size : length w ≡ o.end - at = window_size octets at o.end within in
    let k = front_fits p.standing w f (omega (arith, size)) e in
    let whole : at + (f.size + f.there) ≤ o.end = omega (arith, k.within, size) in
    let stop : at + (f.size + f.there) ≡ inner.end = omega (arith, ends) in
    let line = element_line p w f in
    let rest = still octets o.end os in
    let deeper : p.depth + 1 ≡ length (around ∷ os) = omega arith in
    let inside_is : inside w f ≡ window octets (at + f.own) inner.end =
    let n : f.size + f.there - f.own ≡ inner.end - (at + f.own) = omega (arith, stop, k.own) in
    ap (take (f.size + f.there - f.own)) (later octets at o.end f.own (omega (arith, whole, k.own)))
    ∙ ap (λ n. take n (window octets (at + f.own) o.end)) n
    ∙ shorter octets (at + f.own) o.end inner.end (omega (arith, whole, stop)) in
    let behind_is : behind w f ≡ window octets inner.end around.end =
    later octets at o.end (f.size + f.there) whole ∙ ap (λ n. window octets n o.end) stop ∙ ap (λ n. window octets inner.end n) (sym same) in
    let inner_lines : lines_at (spot_inside p f) (inside w f) ≡ lines_at (spot (at + f.own) (around ∷ os) inner) (window octets (at + f.own) inner.end) =
    ap (lines_at (spot_inside p f)) inside_is
    ∙ ap (λ d. lines_at (record { offset = at + f.own; depth = d; standing = first_of f.called.part }) (window octets (at + f.own) inner.end)) deeper
    ∙ ap (λ s. lines_at (record { offset = at + f.own; depth = length (around ∷ os); standing = s }) (window octets (at + f.own) inner.end)) (sym first) in
    let behind_lines : lines_at (spot_behind p f) (behind w f) ≡ lines_at (spot inner.end os around) (window octets inner.end around.end) =
    ap (lines_at (spot_behind p f)) behind_is
    ∙ ap (λ n. lines_at (record { offset = n; depth = length os; standing = f.next }) (window octets inner.end around.end)) stop
    ∙ ap (λ s. lines_at (record { offset = inner.end; depth = length os; standing = s }) (window octets inner.end around.end)) (sym next) in
    ap (λ (ls : List Line). ls ++ rest) (at_element p w f (omega (arith, size)) e)
    ∙ ap (λ (ls : List Line). line ∷ (ls ++ lines_at (spot_behind p f) (behind w f) ++ rest)) inner_lines
    ∙ ap (λ (ls : List Line). line ∷ (lines_at (spot (at + f.own) (around ∷ os) inner) (window octets (at + f.own) inner.end) ++ ls ++ rest)) behind_lines
    ∙ ap (λ (ls : List Line). line ∷ ls) (append_assoc (lines_at (spot (at + f.own) (around ∷ os) inner) (window octets (at + f.own) inner.end)) (lines_at (spot inner.end os around) (window octets inner.end around.end)) rest)
    ∙ ap (λ n. line ∷ (lines_at (spot (at + f.own) (around ∷ os) inner) (window octets (at + f.own) inner.end) ++ (lines_at (spot inner.end os around) (window octets inner.end around.end) ++ still octets n os))) (sym same)

-- ---- the elements around the innermost

pub one_more : (b : Bool) (new old : List Open) (o : Open) → new ≡ cond b (old ++ (o ∷ [])) old → b ≡ true → reverse new ≡ o ∷ reverse old
one_more true new old o e ok = ap reverse e ∙ reverse-append old (o ∷ [])
one_more false new old o e ok = absurd cc

pub one_less : (new old : List Open) (o : Open) → old ≡ new ++ (o ∷ []) → reverse old ≡ o ∷ reverse new
one_less new old o e = ap reverse e ∙ reverse-append new (o ∷ [])

empty : (os : List Open) → length os ≡ 0 → os ≡ []
empty [] h = refl
empty (o ∷ os) h = absurd (omega arith)

pub none_left : (os : List Open) → length os ≡ 0 → reverse os ≡ []
none_left os h = ap reverse (empty os h)
