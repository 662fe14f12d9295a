-- General names are read as their grammar says, each from one element.
use Rattle.std.specs.Prelude.{◌≡◌, ℕ, Bool, true, false, List, ◌++◌, Option, Some, None, Result, Ok, Err, cond, refl}
use Rattle.std.proofs.Common.{subst}
use Rattle.x509_der.specs.declared.error.BerError.TheVariants as ber
use Rattle.x509_der.specs.declared.error.Err.{Err as Refusal}
use Rattle.x509_der.specs.declared.error.Err.TheVariants as refusals
use Rattle.x509_der.specs.declared.header.Header.{Header}
use Rattle.x509_der.specs.Elements.{Elem}
use Rattle.x509_der.specs.Laws.{IsBytes, IsMarkedElement, IsMarkedField, AtEnd}
use Rattle.x509_der.specs.Leaves.{any}
use Rattle.x509_der.specs.Plan.{Plan, got, mapped, plain_when, StandsInside, reads_inside, all_behind}
use Rattle.x509_der.specs.Primitives.{is_context}
use Rattle.x509_der.specs.Promises.{is_excused}
use Rattle.x509_der.specs.Reading.{Element, strict}
use Rattle.x509_der.proofs.Agreement.{mapped_agrees}
use Rattle.x509_der.proofs.Leaves.{elem_parts}
use Rattle.x509_der.proofs.Marked.{mapped_marks, inside_told, Tells}
use Rattle.x509_der.proofs.Marking.{marked, all_behind_marked, mapped_marked, plain_when_marked}
use Rattle.x509_der.proofs.Results.{bytes_behind, bytes_before}
use Rattle.x509_der.proofs.WantOfMemory.{mapped_never_memory, tested_never_memory}
use Rattle.x509_der.proofs.Windows.{mapped_within}
use Rattle.x509_fields.specs.declared.error.X509Error.{X509Error}
use Rattle.x509_fields.specs.declared.error.X509Error.TheVariants.{Der}
use Rattle.x509_fields.specs.Errors.{is_x509_memory}
use Rattle.x509_fields.specs.Fields.{lifted, as_x509_renames}
use Rattle.x509_names.specs.Names.{name_laws}
use Rattle.x509_general_names.specs.GeneralName.{GeneralNameValue, Alternative, other_name, rfc822_name, dns_name, x400_address, directory_name, edi_party_name, uniform_resource_identifier, ip_address, registered_id, no_alternative, alternative, alternative_of, alternative_in, some_or_not, only_context, context_element, named, general_name}

-- ---- contents

-- fields of which something is made
mapped_marked_field : {E A B : Type 0} (is_memory : E → Bool) (At : List ℕ → Type 0) (p : Plan (Refusal E) A) (f : A → Result B (Refusal E)) → IsMarkedField is_memory At p → ((a : A) (r : Refusal E) → f a ≡ Err r → is_excused is_memory true r ≡ false) → IsMarkedField is_memory At (mapped p f)
mapped_marked_field is_memory At p f h hf = record {
  field = record { agrees = mapped_agrees p f h.field.agrees; within = mapped_within p f h.field.within; never_memory = mapped_never_memory is_memory p f h.field.never_memory hf };
  marks = mapped_marks At p f h.marks;
}

refused : (name : Option GeneralNameValue) (r : Refusal X509Error) → some_or_not name ≡ Err r → is_excused is_x509_memory true r ≡ false
refused (Some name) r e = absurd cc
refused None refusals.Incomplete e = refl
refused None (refusals.Error kind) e = refl
refused None (refusals.Failure kind) e = absurd cc

made_laws : (f : List ℕ → Option GeneralNameValue) → IsMarkedField is_x509_memory AtEnd (mapped all_behind (λ octets. some_or_not (f octets)))
made_laws f = mapped_marked_field is_x509_memory AtEnd all_behind (λ octets. some_or_not (f octets)) (all_behind_marked is_x509_memory AtEnd) (λ octets r e. refused (f octets) r e)

pub alternative_laws : (a : Alternative) (h : Header) → IsMarkedField is_x509_memory AtEnd (alternative a h)
unfolding alternative
alternative_laws other_name h = search (marked, as_x509_renames) depth 40
alternative_laws rfc822_name h = made_laws _
alternative_laws dns_name h = made_laws _
alternative_laws x400_address h = search marked depth 40
alternative_laws directory_name h = search (marked, name_laws) depth 40
alternative_laws edi_party_name h = search marked depth 40
alternative_laws uniform_resource_identifier h = made_laws _
alternative_laws ip_address h = search marked depth 40
alternative_laws registered_id h = search marked depth 40
alternative_laws no_alternative h = made_laws (λ octets. None)

-- ---- elements of context class

lifted_any_laws : IsMarkedElement is_x509_memory (lifted any)
lifted_any_laws = search (marked, as_x509_renames) depth 20

pub context_element_laws : IsMarkedElement is_x509_memory context_element
unfolding context_element
context_element_laws = mapped_marked is_x509_memory (lifted any) only_context lifted_any_laws (λ e r why. tested_never_memory is_x509_memory (is_context e.header.class) e (Der ber.InvalidTag) r why)

kept : (b : Bool) (e d : Element) (why : Refusal X509Error) → cond {A = Result Element (Refusal X509Error)} b (Ok e) (Err why) ≡ Ok d → e ≡ d
kept true e d why same = cc
kept false e d why same = absurd cc

-- it is a strict element
context_is_element : (place : List ℕ) (e : Element) (next : List ℕ) → IsBytes place → context_element.read place ≡ got e next → Elem strict place e next
unfolding context_element any
context_is_element place e next k x =
    let is = context_element_laws.laws.lawful.agrees.sound place e next k x in
    subst (λ (d : Element). Elem strict place d next) (kept (is_context is.0.header.class) is.0 e (refusals.Error (Der ber.InvalidTag)) is.2) is.1

-- whose contents are bytes
contents_are_bytes : (place : List ℕ) (e : Element) (next : List ℕ) → IsBytes place → Elem strict place e next → IsBytes e.contents
contents_are_bytes place e next k is =
    let p = elem_parts strict place e next is in
    bytes_before (e.contents ++ next) e.contents next refl (bytes_behind place p.0 (e.contents ++ next) p.2 k)

-- ---- general names

inside_tells : Tells (λ e. StandsInside (alternative_in e) e.contents) (λ e. reads_inside (alternative_in e) e.contents) context_element
inside_tells place e next k x =
    let laws = alternative_laws (alternative_of e.header.tag.0) e.header in
    inside_told (alternative_in e) laws.field.agrees laws.marks e.contents (contents_are_bytes place e next k (context_is_element place e next k x))

pub general_name_laws : IsMarkedElement is_x509_memory general_name
unfolding general_name
general_name_laws =
    mapped_marked is_x509_memory (plain_when (λ e. StandsInside (alternative_in e) e.contents) (λ e. reads_inside (alternative_in e) e.contents) context_element) (λ e. Ok (named e))
    (plain_when_marked is_x509_memory (λ e. StandsInside (alternative_in e) e.contents) (λ e. reads_inside (alternative_in e) e.contents) context_element context_element_laws inside_tells)
    (λ e r never. absurd cc)
