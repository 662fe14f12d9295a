-- The laws of attributes of a request.
use Rattle.std.proofs.Common.{◌≡◌, ℕ, List, ◌++◌, ◌&&◌, Bool, true, false, Option, Some, None, Result, Ok, Err, refl, ap, subst, ◌∙◌, if◌then◌else◌}
use Rattle.x509_der.specs.declared.error.Err.{Err as Refusal}
use Rattle.x509_der.specs.declared.error.Err.TheVariants.{Error}
use Rattle.x509_der.specs.Laws.{IsBytes, IsMarkedField, IsMarkedElement, IsMarkedContents, Anywhere}
use Rattle.x509_der.specs.Elements.{Elem}
use Rattle.x509_der.specs.Leaves.{any, oid, sequence}
use Rattle.x509_der.proofs.Agreement.{bytes_inside}
use Rattle.x509_der.specs.Plan.{Outcome, got, mapped, plain_when, is_read}
use Rattle.x509_der.specs.Primitives.{is_constructed, has_number}
use Rattle.x509_der.specs.Promises.{is_ber_memory, is_excused}
use Rattle.x509_der.specs.Reading.{Element, strict, loose}
use Rattle.x509_der.proofs.Marked.{both, both_0, both_1, value_told}
use Rattle.x509_der.proofs.Marking.{marked, contents_marked, mapped_marked, plain_when_marked, named_marked, any_marked, with_bytes_marked}
use Rattle.x509_der.proofs.Results.{bytes_before, bytes_behind}
use Rattle.x509_der.proofs.Words.{sequence_laws}
use Rattle.x509_fields.specs.declared.error.X509Error.{X509Error}
use Rattle.x509_fields.specs.declared.error.X509Error.TheVariants as x509
use Rattle.x509_fields.specs.Errors.{is_x509_memory}
use Rattle.x509_fields.specs.Fields.{named, as_x509_renames}
use Rattle.x509_extensions.specs.ExtensionList.{extensions_laws}
use Rattle.x509_requests.specs.PasswordTexts.{password_laws}
use Rattle.x509_requests.specs.declared.attribute_kind.AttributeKind.{AttributeKind}
use Rattle.x509_requests.specs.declared.attribute_kind.AttributeKind.TheVariants as kinds
use Rattle.x509_requests.specs.CriAttribute.{SetValue, Parts, ParsedAttribute, loose_sequence, set_or_refused, attribute_set, attribute_fields, attribute_parts, row, first_value, said_by, with_parsed, said, PlainValues, marks_of_values, PlainParts, parts_mark, kind_of, attribute}

pub loose_sequence_laws : IsMarkedContents is_ber_memory loose_sequence
unfolding loose_sequence
loose_sequence_laws = contents_marked (is_constructed 16) loose

set_refused : (b : Bool) (f : List ℕ → SetValue) (r : Refusal X509Error) → ◌≡◌ {A = Result (List ℕ → SetValue) (Refusal X509Error)} (if b then Ok f else Err (Error x509.InvalidAttributes)) (Err r) → is_excused is_x509_memory true r ≡ false
set_refused true f r e = absurd cc
set_refused false f r e = let same : Error x509.InvalidAttributes ≡ r = cc in subst (λ (w : Refusal X509Error). is_excused is_x509_memory true w ≡ false) same refl

attribute_set_laws : IsMarkedElement is_x509_memory attribute_set
unfolding attribute_set
attribute_set_laws =
    with_bytes_marked is_x509_memory (mapped (named x509.InvalidAttributes any) set_or_refused)
    (mapped_marked is_x509_memory (named x509.InvalidAttributes any) set_or_refused (named_marked is_ber_memory is_x509_memory x509.InvalidAttributes any any_marked)
    (λ e r x. set_refused (has_number 17 e.header) (λ bytes. record { bytes = bytes; element = e }) r x))

attribute_fields_laws : IsMarkedElement is_x509_memory attribute_fields
unfolding attribute_fields
attribute_fields_laws = search (marked, as_x509_renames, loose_sequence_laws, attribute_set_laws) depth 40

pub attribute_parts_laws : IsMarkedElement is_x509_memory attribute_parts
unfolding attribute_parts
attribute_parts_laws = search (marked, attribute_fields_laws)

row_laws : (kind : AttributeKind) → IsMarkedField is_x509_memory Anywhere (row kind)
row_laws kinds.ChallengePassword = search (marked, password_laws) depth 20
row_laws kinds.ExtensionRequest = search (marked, extensions_laws) depth 20

-- ---- the mark tells what stands plainly

told_by : (known : Option AttributeKind) (values : List ℕ) → IsBytes values → ((marks_of_values known values ≡ true) → PlainValues known values) × (PlainValues known values → marks_of_values known values ≡ true)
told_by None values k = (λ m. tt, λ h. refl)
told_by (Some kind) values k = let laws = row_laws kind in value_told (row kind) laws.field.agrees laws.marks values k

-- the bytes of an element's contents, and those behind it
element_bytes : (place : List ℕ) (e : Element) (rest : List ℕ) → IsBytes place → Elem strict place e rest → IsBytes e.contents × IsBytes rest
element_bytes place e rest k is =
    let both_parts = bytes_behind (is.head.len ++ (e.contents ++ rest)) is.head.len (e.contents ++ rest) refl (bytes_behind place is.head.identifier (is.head.len ++ (e.contents ++ rest)) is.head.spelled k) in
    (bytes_before (e.contents ++ rest) e.contents rest refl both_parts, bytes_behind (e.contents ++ rest) e.contents rest refl both_parts)

-- what was made of a SET's element holds it
made_of : (b : Bool) (e : Element) (make : List ℕ → SetValue) (raw : List ℕ) (s : SetValue) → ◌≡◌ {A = Result (List ℕ → SetValue) (Refusal X509Error)} (if b then Ok (λ bytes. record { bytes = bytes; element = e }) else Err (Error x509.InvalidAttributes)) (Ok make) → make raw ≡ s → e ≡ s.element
made_of true e make raw s is same =
    let f : List ℕ → SetValue = λ bytes. record { bytes = bytes; element = e } in
    let maker : f ≡ make = cc in
    ap (λ (g : List ℕ → SetValue). (g raw).element) maker ∙ ap (λ (x : SetValue). x.element) same
made_of false e make raw s is same = absurd cc

-- the bytes of an attribute, and of the contents of its SET
parts_bytes : (place : List ℕ) (p : Parts) (next : List ℕ) → IsBytes place → attribute_parts.Is place p next → IsBytes p.raw × IsBytes p.set.element.contents
unfolding attribute_parts attribute_fields attribute_set any oid
parts_bytes place p next k is =
    let raw : is.0 ≡ p.raw = ap (λ (f : List ℕ → Parts). (f is.0).raw) is.3.3.3.3.0 ∙ ap (λ (x : Parts). x.raw) is.4 in
    let set : is.3.3.3.0 ≡ p.set = ap (λ (f : List ℕ → Parts). (f is.0).set) is.3.3.3.3.0 ∙ ap (λ (x : Parts). x.set) is.4 in
    let read = loose_sequence_laws.laws.is_element.lawful.agrees.complete place is.3.0 next k is.3.2 in
    let contents = bytes_inside loose_sequence loose_sequence_laws.laws.encloses place is.3.0 next k read in
    let identifier : Element = record { header = is.3.3.2.0; contents = is.3.3.0 } in
    let behind = (element_bytes is.3.0 identifier is.3.3.1 contents is.3.3.2.1).1 in
    let element = is.3.3.3.2.3.0 in
    let inside = (element_bytes is.3.3.1 element is.3.3.3.1 behind is.3.3.3.2.3.1).0 in
    let holds = made_of (has_number 17 element.header) element is.3.3.3.2.1 is.3.3.3.2.0 is.3.3.3.0 is.3.3.3.2.3.2 is.3.3.3.2.4 in
    (subst IsBytes raw (bytes_before place is.0 next is.2 k), subst (λ (v : SetValue). IsBytes v.element.contents) set (subst (λ (e : Element). IsBytes e.contents) holds inside))

mark_told : (p : Parts) → IsBytes p.raw → IsBytes p.set.element.contents → ((parts_mark p ≡ true) → PlainParts p) × (PlainParts p → parts_mark p ≡ true)
unfolding parts_mark
mark_told p raw values =
    let agrees = sequence_laws.is_element.lawful.agrees in
    let told = told_by (kind_of p.oid) p.set.element.contents values in
    let own = is_constructed 17 p.set.element.header in
    let marks = marks_of_values (kind_of p.oid) p.set.element.contents in (
      λ m.
          let inner = both_1 (is_read (sequence.read p.raw)) (own && marks) m in
          let s = was_read (sequence.read p.raw) (both_0 (is_read (sequence.read p.raw)) (own && marks) m) in
          record { contents = s.0; behind = s.1; is_sequence = agrees.sound p.raw s.0 s.1 raw s.2; is_set = both_0 own marks inner; values = told.0 (both_1 own marks inner) },
      λ h.
          both (is_read (sequence.read p.raw)) (own && marks) (ap is_read (agrees.complete p.raw h.contents h.behind raw h.is_sequence)) (both own marks h.is_set (told.1 h.values)),
    )
  where
    was_read : {F A : Type 0} (r : Outcome F A) → is_read r ≡ true → (a : A) × (next : List ℕ) × (r ≡ got a next)
    was_read (Ok x) e = (x.1, x.0, refl)
    was_read (Err w) e = absurd cc

said_refused : (p : Parts) (r : Refusal X509Error) → said p ≡ Err r → is_excused is_x509_memory true r ≡ false
unfolding said
said_refused p r e = go (kind_of p.oid) e
  where
    mine : (r : Refusal X509Error) → Error x509.InvalidAttributes ≡ r → is_excused is_x509_memory true r ≡ false
    mine r same = subst (λ (w : Refusal X509Error). is_excused is_x509_memory true w ≡ false) same refl

    of_reading : (o : Outcome (Refusal X509Error) ParsedAttribute) → with_parsed p (first_value o) ≡ Err r → is_excused is_x509_memory true r ≡ false
    of_reading (Ok x) e = absurd cc
    of_reading (Err w) e = mine r cc

    go : (known : Option AttributeKind) → with_parsed p (said_by known p.set.element.contents) ≡ Err r → is_excused is_x509_memory true r ≡ false
    go None e = absurd cc
    go (Some kind) e = of_reading ((row kind).read p.set.element.contents) e

pub attribute_laws : IsMarkedElement is_x509_memory attribute
unfolding attribute
attribute_laws =
    let looked = plain_when_marked is_x509_memory PlainParts parts_mark attribute_parts attribute_parts_laws
    (λ place p next k read.
    let b = parts_bytes place p next k (attribute_parts_laws.laws.lawful.agrees.sound place p next k read) in
    mark_told p b.0 b.1) in
    mapped_marked is_x509_memory (plain_when PlainParts parts_mark attribute_parts) said looked said_refused
