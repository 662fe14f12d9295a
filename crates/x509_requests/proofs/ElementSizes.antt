-- The contents of an element, and what stands behind it, are shorter than the bytes by a header.
use Rattle.std.proofs.Common.{◌≡◌, ◌+◌, ◌≤◌, ◌++◌, ℕ, List, Ok, length, true, ap, arith}
use Rattle.std.proofs.lemmas.List.{length-append}
use Rattle.x509_der.specs.Laws.{IsBytes}
use Rattle.x509_der.specs.Plan.{got}
use Rattle.x509_der.specs.Primitives.{contents_at}
use Rattle.x509_der.specs.Reading.{Element, element_at, strict}
use Rattle.x509_der.proofs.Lawful.{contents_laws}

contents_read : (place : List ℕ) (e : Element) (rest : List ℕ) → element_at strict place ≡ Ok (rest, e) → contents_at (λ h. true) strict place ≡ got e.contents rest
unfolding contents_at
contents_read place e rest read = cc

pub element_sizes : (place : List ℕ) (e : Element) (rest : List ℕ) → IsBytes place → element_at strict place ≡ Ok (rest, e) → length rest + length e.contents + 2 ≤ length place
element_sizes place e rest k read =
    let p = (contents_laws (λ h. true) strict).encloses.header place e.contents rest k (contents_read place e rest read) in
    omega (arith, p.1, ap length p.2, length-append p.0 (e.contents ++ rest), length-append e.contents rest)
