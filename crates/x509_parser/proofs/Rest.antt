-- What stands behind the element at the front, by how many elements were cut.
use Rattle.std.proofs.Common.{◌≡◌, ℕ, ◌<◌, ◌≤◌, false, cond, List, [], Ok, ap, sym, ◌∙◌, arith}
use Rattle.x509_der.specs.Looks.{behind, is_element, is_some_reading, place_at}
use Rattle.x509_der.specs.Reading.{Element, element_at, loose}
use Rattle.x509_parser.specs.Objects.{rest_of}

pub behind_one : (octets window tail : List ℕ) (n : ℕ) (x : List ℕ × Element) → window ≡ octets → 0 < n → n ≤ 1 → element_at loose (place_at window 0) ≡ Ok x → tail ≡ place_at window n → tail ≡ rest_of octets
unfolding rest_of is_element
behind_one octets window tail n x w some few e t =
    let one : n ≡ 1 = omega (arith, some, few) in
    t ∙ ap (λ k. place_at window k) one ∙ ap behind w
    ∙ sym (ap (λ b. cond b (behind octets) []) (ap (λ o. is_some_reading (element_at loose o)) (sym w) ∙ ap is_some_reading e))

pub behind_none : (octets window : List ℕ) (n : ℕ) → window ≡ octets → n ≡ 0 → (n < 1 → is_element (place_at window n) ≡ false) → [] ≡ rest_of octets
unfolding rest_of
behind_none octets window n w none stops =
    let few : n < 1 = omega (arith, none) in
    sym (ap (λ b. cond b (behind octets) []) (ap is_element (sym w) ∙ ap (λ k. is_element (place_at window k)) (sym none) ∙ stops few))
