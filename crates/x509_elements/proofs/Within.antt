-- Each element lies in the octets of the object.
use Rattle.std.proofs.Common.{◌≡◌, ℕ, zero, suc, ◌+◌, ◌-◌, ◌<◌, ◌≤◌, List, [], ◌∷◌, ◌++◌, length, drop, Ok, Err, refl, arith, length-take, length-drop}
use Rattle.x509_elements.specs.Elements.{Line, Spot, behind, elements_of, inside, lines_at, lines_by, lines_within, spot_behind, spot_inside}
use Rattle.x509_elements.specs.Fronts.{Fronts, front_at}
use Rattle.x509_elements.proofs.Fronts.{front_fits}
use Rattle.x509_elements.specs.Values.{end_of}
use Rattle.x509_elements.specs.declared.part.Part.{Part}

abbrev pub AreWithin : ℕ → List Line → Type 0
AreWithin size [] = Unit {0}
AreWithin size (l ∷ ls) = (end_of l ≤ size) × AreWithin size ls

both : (size : ℕ) (xs ys : List Line) → AreWithin size xs → AreWithin size ys → AreWithin size (xs ++ ys)
both size [] ys h k = k
both size (x ∷ xs) ys h k = (h.0, both size xs ys h.1 k)

abbrev Within : ℕ → ℕ → ℕ → Type 0
Within n size whole = (q : Spot) (v : List ℕ) → length v < size → q.offset + length v ≤ whole → AreWithin whole (lines_within n q v)

within_by : (n : ℕ) (p : Spot) (w : List ℕ) (r : Fronts) (whole : ℕ) → p.offset + length w ≤ whole → Within n (length w) whole → 0 < length w → front_at p.standing w ≡ r
    → AreWithin whole (lines_by (λ q v. lines_within n q v) p w r)
within_by n p w (Ok f) whole h within some e =
    let k = front_fits p.standing w f some e in
    let inner : length (inside w f) ≡ f.size + f.there - f.own = omega (arith, k.some, k.own, k.within, length-take (f.size + f.there - f.own) (drop f.own w), length-drop f.own w) in
    let outer : length (behind w f) ≡ length w - (f.size + f.there) = length-drop (f.size + f.there) w in (
      omega (arith, h, k.within),
      both whole (lines_within n (spot_inside p f) (inside w f)) (lines_within n (spot_behind p f) (behind w f))
          (within (spot_inside p f) (inside w f) (omega (arith, inner, k.some, k.own, k.within)) (omega (arith, inner, h, k.own, k.within)))
          (within (spot_behind p f) (behind w f) (omega (arith, outer, k.size, k.within)) (omega (arith, outer, h, k.within))),
    )
within_by n p w (Err why) whole h within some e = (omega (arith, h), tt)

all_within : (n : ℕ) (p : Spot) (w : List ℕ) (whole : ℕ) → p.offset + length w ≤ whole → AreWithin whole (lines_within n p w)
unfolding lines_within
all_within zero p w whole h = tt
all_within (suc n) p [] whole h = tt
all_within (suc n) p (b ∷ bs) whole h = within_by n p (b ∷ bs) (front_at p.standing (b ∷ bs)) whole h (λ q v less k. all_within n q v whole k) (omega arith) refl

pub each_within : (part : Part) (octets : List ℕ) → AreWithin (length octets) (elements_of part octets)
unfolding elements_of lines_at
each_within part octets = all_within (length octets) _ octets (length octets) (omega arith)
