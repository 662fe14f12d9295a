-- The ends of lists of names.
use Rattle.std.proofs.Common.{◌≡◌, ℕ, true, List, [], Ok, Err, refl, ap}
use Rattle.x509_der.specs.Leaves.{any}
use Rattle.x509_der.specs.declared.error.Err.{Err as Refusal}
use Rattle.x509_der.specs.declared.error.Err.TheVariants as refusals
use Rattle.x509_der.specs.Plan.{Outcome, and_then, ended, then_marks, then_stop, stop_here}
use Rattle.x509_der.specs.Reading.{Element, element_at, header_at}
use Rattle.x509_der.proofs.Results.{stop_either}
use Rattle.x509_fields.specs.declared.error.X509Error.{X509Error}
use Rattle.x509_fields.specs.Fields.{lifted}
use Rattle.x509_general_names.specs.GeneralName.{GeneralNameValue, context_element}
use Rattle.x509_der.specs.Promises.{ended_early}
use Rattle.x509_fields.specs.Lists.{list_error}
use Rattle.x509_general_names.specs.AlternativeNames.{unless_refused, got_or_failed, end_of_names}

behind_it : {F A : Type 0} (r : Outcome F A) → then_marks r (λ a next. true) ≡ true
behind_it (Ok x) = refl
behind_it (Err r) = refl

-- it is always plain
pub end_plain : (names : List GeneralNameValue) (place : List ℕ) → (end_of_names names).marks place ≡ true
unfolding end_of_names
end_plain names place = behind_it ((unless_refused context_element names).read place)

at_the_end : (names : List GeneralNameValue) → (end_of_names names).read [] ≡ Ok ([], names)
unfolding end_of_names context_element any element_at header_at
at_the_end names = refl

-- where nothing is left, nothing is refused
pub end_of_nothing : (names : List GeneralNameValue) (rest : List ℕ) → rest ≡ [] → (end_of_names names).read rest ≡ Ok ([], names)
end_of_nothing names rest none = rw none (at_the_end names)

context_stops : {L : Type 0} (more : ℕ → L → L) (place : List ℕ) (outside : L) → context_element.stop more place outside ≡ stop_here more place outside
unfolding context_element any
context_stops more place outside = stop_either ((lifted any).read place) (stop_here more place outside)

-- what stands behind the last name is refused where it begins
pub names_stop : {L : Type 0} (names : List GeneralNameValue) (more : ℕ → L → L) (place : List ℕ) (outside : L) → (end_of_names names).stop more place outside ≡ stop_here more place outside
unfolding end_of_names
names_stop {L} names more place outside = go (context_element.read place)
  where
    go : (r : Outcome (Refusal X509Error) Element) → then_stop (got_or_failed names place r) (context_element.stop more place outside) (λ xs next. stop_here more next outside) ≡ stop_here more place outside
    go (Ok x) = refl
    go (Err refusals.Incomplete) = refl
    go (Err (refusals.Error e)) = context_stops more place outside
    go (Err (refusals.Failure e)) = refl

-- a misspelled element, or one of another class, after which no other reading helps
pub names_failed : (names : List GeneralNameValue) (rest : List ℕ) (e : X509Error) → context_element.read rest ≡ Err (refusals.Error e) → (end_of_names names).read rest ≡ Err (refusals.Failure e)
unfolding end_of_names
names_failed names rest e is = ap (λ (r : Outcome (Refusal X509Error) Element). and_then (got_or_failed names rest r) (λ xs. ended (ended_early list_error) xs)) is
