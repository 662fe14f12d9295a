-- How large the element at the front is.
use Rattle.std.proofs.Common.{◌≡◌, ℕ, ◌+◌, ◌<◌, ◌≤◌, ◌&&◌, Bool, true, false, cond, List, [], ◌∷◌, length, take, Ok, Err, refl, sym, ap, ◌∙◌, subst, arith, length-take}
use Rattle.x509_der.specs.declared.header.Header.{Header}
use Rattle.x509_der.specs.Reading.{Reading, header_at, loose}
use Rattle.x509_elements.specs.Fronts.{Front, front_at, front_by, front_with, is_bits, is_value, own_in, size_of, there_of}
use Rattle.x509_elements.proofs.Finding.{number_stepped}
use Rattle.x509_elements.specs.Cursors.{Standing, Step, stepped}
use Rattle.x509_elements.specs.Seen.{holds_sequence, is_one}

-- the line holds an octet at least, and none of what stands behind the element, which lies in the window
pub record Fits (f : Front) (whole : ℕ) : Type 0 where
  pub some : 0 < f.own
  pub size : 0 < f.size
  pub own : f.own ≤ f.size + f.there
  pub within : f.size + f.there ≤ whole

choice : (a b c : Bool) (n : ℕ) → (c ≡ true → 1 ≤ n) → cond a 0 (cond b 0 (cond c 1 n)) ≤ n
choice true b c n h = omega arith
choice false true c n h = omega arith
choice false false true n h = h refl
choice false false false n h = omega arith

some_octet : (b : Bool) (contents : List ℕ) → (b && holds_sequence contents) ≡ true → 1 ≤ length contents
some_octet true [] e = absurd cc
some_octet false [] e = absurd cc
some_octet b (x ∷ xs) e = omega arith

own_within : (name : List ℕ) (h : Header) (contents : List ℕ) → own_in name h contents ≤ length contents
own_within name h contents =
    choice h.constructed (is_value name h && is_one contents) (is_bits name h && holds_sequence contents) (length contents) (some_octet (is_bits name h) contents)

fits_with : (whole rest : ℕ) (h : Header) (contents : List ℕ) (step : Step) → 0 < whole → Fits (front_with whole (size_of whole rest) h contents step) whole
fits_with whole rest h contents step some =
    let size = size_of whole rest in
    let there = there_of whole size h in
    let own : own_in step.0.name h (take there contents) ≤ there = omega (arith, own_within step.0.name h (take there contents), length-take there contents) in
    record { some = omega arith; size = omega arith; own = omega (arith, own); within = omega arith }

fits_by : (s : Standing) (whole : ℕ) (r : Reading Header) (f : Front) → 0 < whole → front_by s whole r ≡ Ok f → Fits f whole
fits_by s whole (Ok x) f some e =
    let step = stepped s x.1 (take (there_of whole (size_of whole (length x.0)) x.1) x.0) in
    let is : front_with whole (size_of whole (length x.0)) x.1 x.0 step ≡ f = cc in
    subst (λ g. Fits g whole) is (fits_with whole (length x.0) x.1 x.0 step some)
fits_by s whole (Err why) f some e = absurd cc

pub front_fits : (s : Standing) (window : List ℕ) (f : Front) → 0 < length window → front_at s window ≡ Ok f → Fits f (length window)
unfolding front_at
front_fits s window f some e = fits_by s (length window) (header_at loose window) f some e

-- one member more stands before what comes next

number_by : (s : Standing) (whole : ℕ) (r : Reading Header) (f : Front) → front_by s whole r ≡ Ok f → f.next.number ≡ s.number + 1
number_by s whole (Ok x) f e =
    let contents = take (there_of whole (size_of whole (length x.0)) x.1) x.0 in
    let is : front_with whole (size_of whole (length x.0)) x.1 x.0 (stepped s x.1 contents) ≡ f = cc in
    ap (λ g. g.next.number) (sym is) ∙ number_stepped s x.1 contents
number_by s whole (Err why) f e = absurd cc

pub front_number : (s : Standing) (window : List ℕ) (f : Front) → front_at s window ≡ Ok f → f.next.number ≡ s.number + 1
unfolding front_at
front_number s window f e = number_by s (length window) (header_at loose window) f e
