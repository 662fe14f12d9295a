-- The lines of a window: as many as there are octets is enough, each octet is in one of them, and each begins where the one before ends.
use Rattle.std.proofs.Common.{◌≡◌, ℕ, zero, suc, ◌+◌, ◌-◌, ◌<◌, ◌≤◌, List, [], ◌∷◌, ◌++◌, length, take, drop, Ok, Err, refl, sym, ap, subst, ◌∙◌, arith, length-take, length-drop, append-nil, length-append}
use Rattle.std.proofs.lemmas.Grind.{flat_map-append}
use Rattle.std.proofs.lemmas.List.{drop-drop, take-append-drop}
use Rattle.x509_der.specs.declared.error.BerError.{BerError}
use Rattle.x509_der.specs.declared.error.Err.{Err as Refusal}
use Rattle.x509_elements.specs.Elements.{ArePlaced, Line, Spot, behind, element_line, elements_of, inside, lines_at, lines_by, lines_within, octets_of, refused_line, spot_behind, spot_inside}
use Rattle.x509_elements.specs.Fronts.{Front, Fronts, front_at}
use Rattle.x509_elements.proofs.Fronts.{Fits, front_fits}
use Rattle.x509_elements.specs.declared.part.Part.{Part}

-- ---- what stands in an element and behind it is shorter than the window

inside_shorter : (window : List ℕ) (f : Front) → Fits f (length window) → length (inside window f) < length window
inside_shorter window f k = omega (arith, k.some, k.own, k.within, length-take (f.size + f.there - f.own) (drop f.own window), length-drop f.own window)

inside_size : (window : List ℕ) (f : Front) → Fits f (length window) → length (inside window f) ≡ f.size + f.there - f.own
inside_size window f k = omega (arith, k.some, k.own, k.within, length-take (f.size + f.there - f.own) (drop f.own window), length-drop f.own window)

behind_shorter : (window : List ℕ) (f : Front) → Fits f (length window) → length (behind window f) < length window
behind_shorter window f k = omega (arith, k.size, k.within, length-drop (f.size + f.there) window)

-- ---- as many lines as there are octets

abbrev Same : ℕ → ℕ → ℕ → Type 0
Same n m size = (q : Spot) (v : List ℕ) → length v < size → lines_within n q v ≡ lines_within m q v

same_by : (n m : ℕ) (p : Spot) (w : List ℕ) (r : Fronts) → Same n m (length w) → 0 < length w → front_at p.standing w ≡ r
    → lines_by (λ q v. lines_within n q v) p w r ≡ lines_by (λ q v. lines_within m q v) p w r
same_by n m p w (Ok f) same some e =
    let k = front_fits p.standing w f some e in
    ap (λ ls. element_line p w f ∷ (ls ++ lines_within n (spot_behind p f) (behind w f))) (same (spot_inside p f) (inside w f) (inside_shorter w f k))
    ∙ ap (λ ls. element_line p w f ∷ (lines_within m (spot_inside p f) (inside w f) ++ ls)) (same (spot_behind p f) (behind w f) (behind_shorter w f k))
same_by n m p w (Err why) same some e = refl

enough : (n m : ℕ) (p : Spot) (w : List ℕ) → length w ≤ n → length w ≤ m → lines_within n p w ≡ lines_within m p w
unfolding lines_within
enough zero zero p w h k = refl
enough zero (suc m) p [] h k = refl
enough zero (suc m) p (b ∷ bs) h k = absurd (omega arith)
enough (suc n) zero p [] h k = refl
enough (suc n) zero p (b ∷ bs) h k = absurd (omega arith)
enough (suc n) (suc m) p [] h k = refl
enough (suc n) (suc m) p (b ∷ bs) h k = same_by n m p (b ∷ bs) (front_at p.standing (b ∷ bs)) (λ q v less. enough n m q v (omega arith) (omega arith)) (omega arith) refl

-- ---- the lines of a window, by what stands at its front

pub at_nothing : (p : Spot) → lines_at p [] ≡ []
unfolding lines_at lines_within
at_nothing p = refl

pub at_element : (p : Spot) (w : List ℕ) (f : Front) → 0 < length w → front_at p.standing w ≡ Ok f
    → lines_at p w ≡ element_line p w f ∷ (lines_at (spot_inside p f) (inside w f) ++ lines_at (spot_behind p f) (behind w f))
unfolding lines_at lines_within
at_element p [] f some e = absurd (omega arith)
at_element p (b ∷ bs) f some e =
    let w = b ∷ bs in
    let k = front_fits p.standing w f some e in
    let n = length bs in
    let shorter_inside : length (inside w f) ≤ n = omega (arith, inside_shorter w f k) in
    let shorter_behind : length (behind w f) ≤ n = omega (arith, behind_shorter w f k) in
    ap (lines_by (λ q v. lines_within n q v) p w) e
    ∙ ap (λ ls. element_line p w f ∷ (ls ++ lines_within n (spot_behind p f) (behind w f))) (enough n (length (inside w f)) (spot_inside p f) (inside w f) shorter_inside (omega arith))
    ∙ ap (λ ls. element_line p w f ∷ (lines_within (length (inside w f)) (spot_inside p f) (inside w f) ++ ls)) (enough n (length (behind w f)) (spot_behind p f) (behind w f) shorter_behind (omega arith))

pub at_refused : (p : Spot) (w : List ℕ) (why : Refusal BerError) → 0 < length w → front_at p.standing w ≡ Err why → lines_at p w ≡ refused_line p w why ∷ []
unfolding lines_at lines_within
at_refused p [] why some e = absurd (omega arith)
at_refused p (b ∷ bs) why some e = ap (lines_by (λ q v. lines_within (length bs) q v) p (b ∷ bs)) e

-- ---- each octet is in one line

abbrev Once : ℕ → ℕ → Type 0
Once n size = (q : Spot) (v : List ℕ) → length v < size → octets_of (lines_within n q v) ≡ v

parts : (w : List ℕ) (f : Front) → Fits f (length w) → take f.own w ++ (inside w f ++ behind w f) ≡ w
parts w f k =
    let whole : f.own + (f.size + f.there - f.own) ≡ f.size + f.there = omega (arith, k.own) in
    ap (λ (b : List ℕ). take f.own w ++ (inside w f ++ b)) (sym (drop-drop (f.size + f.there - f.own) f.own w ∙ ap (λ n. drop n w) whole))
    ∙ ap (λ (b : List ℕ). take f.own w ++ b) (take-append-drop (f.size + f.there - f.own) (drop f.own w))
    ∙ take-append-drop f.own w

once_by : (n : ℕ) (p : Spot) (w : List ℕ) (r : Fronts) → Once n (length w) → 0 < length w → front_at p.standing w ≡ r → octets_of (lines_by (λ q v. lines_within n q v) p w r) ≡ w
once_by n p w (Ok f) once some e =
    let k = front_fits p.standing w f some e in
    let inner = lines_within n (spot_inside p f) (inside w f) in
    let bs = lines_within n (spot_behind p f) (behind w f) in
    ap (λ (o : List ℕ). take f.own w ++ o) (flat_map-append (λ (l : Line). l.octets) inner bs)
    ∙ ap (λ (o : List ℕ). take f.own w ++ (o ++ octets_of bs)) (once (spot_inside p f) (inside w f) (inside_shorter w f k))
    ∙ ap (λ (o : List ℕ). take f.own w ++ (inside w f ++ o)) (once (spot_behind p f) (behind w f) (behind_shorter w f k))
    ∙ parts w f k
once_by n p w (Err why) once some e = append-nil w

once : (n : ℕ) (p : Spot) (w : List ℕ) → length w ≤ n → octets_of (lines_within n p w) ≡ w
unfolding lines_within
once zero p [] h = refl
once zero p (b ∷ bs) h = absurd (omega arith)
once (suc n) p [] h = refl
once (suc n) p (b ∷ bs) h = once_by n p (b ∷ bs) (front_at p.standing (b ∷ bs)) (λ q v less. once n q v (omega arith)) (omega arith) refl

pub each_once : (part : Part) (octets : List ℕ) → octets_of (elements_of part octets) ≡ octets
unfolding elements_of lines_at
each_once part octets = once (length octets) _ octets (omega arith)

-- ---- each line begins where the one before ends

placed_both : (at : ℕ) (xs ys : List Line) → ArePlaced at xs → ArePlaced (at + length (octets_of xs)) ys → ArePlaced at (xs ++ ys)
placed_both at [] ys h k = subst (λ n. ArePlaced n ys) (omega arith) k
placed_both at (x ∷ xs) ys h k =
    let n : at + length (octets_of (x ∷ xs)) ≡ at + length x.octets + length (octets_of xs) = omega (arith, length-append x.octets (octets_of xs)) in
    (h.0, placed_both (at + length x.octets) xs ys h.1 (subst (λ n. ArePlaced n ys) n k))

abbrev Placed : ℕ → ℕ → Type 0
Placed n size = (q : Spot) (v : List ℕ) → length v < size → ArePlaced q.offset (lines_within n q v)

placed_by : (n : ℕ) (p : Spot) (w : List ℕ) (r : Fronts) → length w ≤ suc n → Placed n (length w) → 0 < length w → front_at p.standing w ≡ r → ArePlaced p.offset (lines_by (λ q v. lines_within n q v) p w r)
placed_by n p w (Ok f) fuel placed some e =
    let k = front_fits p.standing w f some e in
    let inner = lines_within n (spot_inside p f) (inside w f) in
    let bs = lines_within n (spot_behind p f) (behind w f) in
    let own : p.offset + f.own ≡ p.offset + length (take f.own w) = omega (arith, k.own, k.within, length-take f.own w) in
    let size : length (octets_of inner) ≡ f.size + f.there - f.own = ap length (once n (spot_inside p f) (inside w f) (omega (arith, fuel, inside_shorter w f k))) ∙ inside_size w f k in
    let next : p.offset + (f.size + f.there) ≡ p.offset + length (take f.own w) + length (octets_of inner) = omega (arith, size, own, k.own) in (
      refl,
      placed_both (p.offset + length (take f.own w)) inner bs
          (subst (λ n. ArePlaced n inner) own (placed (spot_inside p f) (inside w f) (inside_shorter w f k)))
          (subst (λ n. ArePlaced n bs) next (placed (spot_behind p f) (behind w f) (behind_shorter w f k))),
    )
placed_by n p w (Err why) fuel placed some e = (refl, tt)

all_placed : (n : ℕ) (p : Spot) (w : List ℕ) → length w ≤ n → ArePlaced p.offset (lines_within n p w)
unfolding lines_within
all_placed zero p [] h = tt
all_placed zero p (b ∷ bs) h = absurd (omega arith)
all_placed (suc n) p [] h = tt
all_placed (suc n) p (b ∷ bs) h = placed_by n p (b ∷ bs) (front_at p.standing (b ∷ bs)) h (λ q v less. all_placed n q v (omega arith)) (omega arith) refl

pub each_placed : (part : Part) (octets : List ℕ) → ArePlaced 0 (elements_of part octets)
unfolding elements_of lines_at
each_placed part octets = all_placed (length octets) _ octets (omega arith)
