-- The mark of an attribute, as its reader tells it.
use Rattle.std.proofs.Common.{◌≡◌, ℕ, List, [], ◌++◌, ◌&&◌, Bool, false, Result, Ok, Err, refl, sym, ap, ◌∙◌, is_ok, append_assoc, append-nil}
use Rattle.std.proofs.lemmas.List.{append_cancel_right}
use Rattle.x509_der.specs.declared.error.BerError.{BerError}
use Rattle.x509_der.specs.declared.error.Err.{Err as Refusal}
use Rattle.x509_der.specs.declared.error.Refused.{Refused}
use Rattle.x509_der.specs.Promises.{GivesAt}
use Rattle.x509_der.specs.Laws.{IsBytes}
use Rattle.x509_der.specs.Leaves.{sequence}
use Rattle.x509_der.specs.Plan.{Outcome, Plan, got, is_read, then_marks}
use Rattle.x509_der.specs.Primitives.{is_constructed}
use Rattle.x509_der.specs.Reading.{Element, strict}
use Rattle.x509_der.proofs.Lawful.{as_loose}
use Rattle.x509_der.proofs.Results.{bytes_before, got_parts, got_not_err}
use Rattle.x509_der.proofs.Words.{sequence_laws}
use Rattle.x509_requests.specs.CriAttribute.{Parts, loose_sequence, attribute_fields, attribute_parts, marks_of_values, parts_mark, kind_of, attribute}
use Rattle.x509_requests.specs.AttributeLaws.{loose_sequence_laws, attribute_parts_laws}

-- a reader accepts exactly where something is read
pub ok_is_read : {E A X L : Type 0} (view : X → List ℕ × A) (p : Plan (Refusal E) A) (more : ℕ → L → L) (place : List ℕ) (outside : L) (r : Result X (Refused E L)) (b : Bool) → GivesAt view p more place outside r → b ≡ is_ok r → b ≡ is_read (p.read place)
ok_is_read view p more place outside (Ok x) b e is = is ∙ sym (ap is_read e)
ok_is_read view p more place outside (Err w) b e is = is ∙ sym (ap is_read e.0)

-- a strict SEQUENCE is a loose one
as_loose_sequence : (place contents next : List ℕ) → IsBytes place → sequence.read place ≡ got contents next → loose_sequence.read place ≡ got contents next
unfolding sequence loose_sequence
as_loose_sequence place contents next k read =
    let is = sequence_laws.is_element.lawful.agrees.sound place contents next k read in
    let e : Element = record { header = is.0; contents = contents } in
    loose_sequence_laws.laws.is_element.lawful.agrees.complete place contents next k (is.0, as_loose strict place e next is.1, is.2)

no_front : (place raw next : List ℕ) → IsBytes place → place ≡ raw ++ next → (why : Refusal BerError) → sequence.read place ≡ Err why → (o : Outcome (Refusal BerError) (List ℕ)) → sequence.read raw ≡ o → false ≡ is_read o
no_front place raw next k parts why none (Err w) at = refl
no_front place raw next k parts why none (Ok x) at =
    let s = sequence_laws.is_element.lawful.is_local.sentence raw x.1 x.0 (bytes_before place raw next parts k) at in
    let same : place ≡ s.bytes ++ (x.0 ++ next) = parts ∙ (ap (λ (r : List ℕ). r ++ next) s.parts ∙ append_assoc s.bytes x.0 next) in
    absurd (got_not_err x.1 (x.0 ++ next) why (sym (s.again (x.0 ++ next)) ∙ (ap sequence.read (sym same) ∙ none)))

go : (place raw contents next : List ℕ) → IsBytes place → place ≡ raw ++ next → loose_sequence.read place ≡ got contents next → (o : Outcome (Refusal BerError) (List ℕ)) → sequence.read place ≡ o → is_read o ≡ is_read (sequence.read raw)
go place raw contents next k parts whole (Err w) at = no_front place raw next k parts w at (sequence.read raw) refl
go place raw contents next k parts whole (Ok x) at =
    let s = sequence_laws.is_element.lawful.is_local.sentence place x.1 x.0 k at in
    let same = got_parts (Refusal BerError) x.1 contents x.0 next (sym (as_loose_sequence place x.1 x.0 k at) ∙ whole) in
    let front : s.bytes ≡ raw = append_cancel_right s.bytes raw next (ap (λ (n : List ℕ). s.bytes ++ n) (sym same.1) ∙ (sym s.parts ∙ parts)) in
    sym (ap is_read (ap sequence.read (sym (append-nil raw) ∙ ap (λ (b : List ℕ). b ++ []) (sym front)) ∙ s.again []))

-- bytes that are one loose SEQUENCE are a strict one, whatever stands behind them
strict_front : (place raw contents next : List ℕ) → IsBytes place → place ≡ raw ++ next → loose_sequence.read place ≡ got contents next → is_read (sequence.read place) ≡ is_read (sequence.read raw)
strict_front place raw contents next k parts whole = go place raw contents next k parts whole (sequence.read place) refl

strict_of : (place : List ℕ) (p : Parts) (next : List ℕ) → IsBytes place → attribute_parts.read place ≡ got p next → is_read (sequence.read place) ≡ is_read (sequence.read p.raw)
unfolding attribute_parts attribute_fields
strict_of place p next k read =
    let is = attribute_parts_laws.laws.lawful.agrees.sound place p next k read in
    let raw : is.0 ≡ p.raw = ap (λ (f : List ℕ → Parts). (f is.0).raw) is.3.3.3.3.0 ∙ ap (λ (x : Parts). x.raw) is.4 in
    let whole = loose_sequence_laws.laws.is_element.lawful.agrees.complete place is.3.0 next k is.3.2 in
    strict_front place p.raw is.3.0 next k (is.2 ∙ ap (λ (r : List ℕ). r ++ next) raw) whole

pub attribute_marks : (place : List ℕ) (p : Parts) (next : List ℕ) (plain is_sequence is_set values : Bool) → IsBytes place → attribute_parts.read place ≡ got p next → plain ≡ attribute_parts.marks place → is_sequence ≡ is_read (sequence.read place)
    → is_set ≡ is_constructed 17 p.set.element.header → values ≡ marks_of_values (kind_of p.oid) p.set.element.contents → (plain && (is_sequence && (is_set && values))) ≡ attribute.marks place
unfolding attribute parts_mark
attribute_marks place p next plain is_sequence is_set values k read h1 h2 h3 h4 =
    let strictly = strict_of place p next k read in
    let behind = ap (λ r. then_marks r (λ q after. parts_mark q)) read in
    rw (h1, h2, h3, h4, strictly) (sym (ap (λ b. attribute_parts.marks place && b) behind))
