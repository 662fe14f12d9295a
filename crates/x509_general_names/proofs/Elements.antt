-- Elements of context class.
use Rattle.std.proofs.Common.{◌≡◌, ℕ, ◌+◌, ◌≤◌, true, List, ◌++◌, length, ap, arith, refl}
use Rattle.std.proofs.lemmas.List.{length-append}
use Rattle.x509_der.specs.Laws.{IsBytes}
use Rattle.x509_der.specs.Leaves.{any}
use Rattle.x509_der.specs.Plan.{got}
use Rattle.x509_der.specs.Reading.{Element, strict}
use Rattle.x509_der.proofs.Leaves.{element_agrees, elem_parts}
use Rattle.x509_general_names.specs.GeneralName.{context_element}

-- the contents of an element lie between its header and the next place
pub any_sizes : (place : List ℕ) (e : Element) (next : List ℕ) → IsBytes place → any.read place ≡ got e next → length next + length e.contents + 2 ≤ length place
unfolding any
any_sizes place e next k x =
    let p = elem_parts strict place e next ((element_agrees strict).sound place e next k x) in
    omega (arith, p.1, ap length p.2, length-append p.0 (e.contents ++ next), length-append e.contents next)

-- it is always plain
pub context_plain : (place : List ℕ) → context_element.marks place ≡ true
unfolding context_element any
context_plain place = refl
