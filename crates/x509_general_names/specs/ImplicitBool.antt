-- BOOLEAN (X.690, 8.2 and 11.1) under a context tag.
use Rattle.std.specs.Prelude.{◌≡◌, true, ℕ, Bool, ◌++◌}
use Rattle.x509_der.specs.Laws.{IsMarkedElement, Opens, differs, Away}
use Rattle.x509_der.specs.Leaves.{BerPlan, value}
use Rattle.x509_der.specs.Plan.{Tagged, context}
use Rattle.x509_der.specs.Primitives.{is_implicit, truth_of}
use Rattle.x509_der.specs.Promises.{is_ber_memory}
use Rattle.x509_der.specs.Reading.{Element, strict}
use Rattle.x509_der.proofs.Lawful.{as_loose}
use Rattle.x509_der.proofs.Leaves.{value_agrees}
use Rattle.x509_der.proofs.Marked.{opens_away}
use Rattle.x509_der.proofs.Marking.{value_marked}

-- ---- the grammar

-- [n] IMPLICIT BOOLEAN
unfoldable pub implicit_bool : ℕ → BerPlan Bool
implicit_bool n = value (is_implicit n) strict truth_of

-- ---- laws

pub implicit_bool_laws : (n : ℕ) → IsMarkedElement is_ber_memory (implicit_bool n)
unfolding implicit_bool
implicit_bool_laws n = value_marked (is_implicit n) strict truth_of

implicit_bool_opens : (n : ℕ) → Opens (context n) (implicit_bool n)
unfolding implicit_bool
implicit_bool_opens n = record {
  opens = λ place a next k x.
      let is = (value_agrees (is_implicit n) strict truth_of).sound place a next k x in
      let e : Element = record { header = is.1.0; contents = is.0 } in
      (is.1.0, is.0 ++ next, (as_loose strict place e next is.1.1).head, is.1.2);
}

-- behind a field that may be absent: no header of another tag is one of a BOOLEAN
pub implicit_bool_away : (mine : Tagged) (n : ℕ) → differs mine (context n) ≡ true → Away mine (implicit_bool n)
implicit_bool_away mine n apart = opens_away mine (context n) (implicit_bool n) (implicit_bool_opens n) apart
