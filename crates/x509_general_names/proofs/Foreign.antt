-- An element of one tag is none of another.
use Rattle.std.proofs.Common.{◌≡◌, ℕ, ◌<◌, Bool, true, false, ◌&&◌, ◌==◌, List, arith, refl}
use Rattle.std.proofs.lemmas.Bool.Decides.{nat_tests}
use Rattle.x509_der.specs.Laws.{IsBytes}
use Rattle.x509_der.specs.Leaves.{implicit_bits}
use Rattle.x509_der.specs.Plan.{got}
use Rattle.x509_der.specs.Primitives.{Bits, bits_of, is_context, is_explicit, is_implicit}
use Rattle.x509_der.specs.Promises.{IsForeign}
use Rattle.x509_der.specs.Reading.{Element, strict}
use Rattle.x509_der.proofs.Leaves.{element_agrees, value_agrees}
use Rattle.x509_der.proofs.Marked.{both_1}

last_false : (a b c : Bool) → c ≡ false → (a && (b && c)) ≡ false
last_false true true c e = e
last_false true false c e = refl
last_false false b c e = refl

other_number : (tag n : ℕ) → (tag == n) ≡ true → 0 < n → (tag == 0) ≡ false
other_number tag n e some = grind (arith, nat_tests)

-- bits under a context tag of another number than 0 are no element of number 0
pub bits_foreign : (n : ℕ) (place : List ℕ) (b : Bits) (next : List ℕ) → IsBytes place → (implicit_bits n).read place ≡ got b next → 0 < n → IsForeign strict (is_explicit 0) place
unfolding implicit_bits
bits_foreign n place b next k e some =
    let is = (value_agrees (is_implicit n) strict bits_of).sound place b next k e in
    let h = is.1.0 in
    let d : Element = record { header = h; contents = is.0 } in
    let own = both_1 (is_context h.class) (h.tag.0 == n) is.1.2 in
    rw ((element_agrees strict).complete place d next k is.1.1) (last_false (is_context h.class) h.constructed (h.tag.0 == 0) (other_number h.tag.0 n own some))
