-- The windows of a signed structure and of its part.
use Rattle.std.proofs.Common.{◌≡◌, ℕ, List, [], ◌++◌, refl, sym, ap, subst, ◌∙◌, Result, Ok, Err}
use Rattle.std.specs.Prelude.{IfOk}
use Rattle.std.proofs.lemmas.List.{append-nil}
use Rattle.x509_der.specs.declared.error.Err.{Err as Refusal}
use Rattle.x509_der.specs.declared.error.Located.{Located}
use Rattle.x509_der.specs.Elements.{Elem}
use Rattle.x509_der.specs.Laws.{IsBytes, IsLawful, IsMarked}
use Rattle.x509_der.specs.Leaves.{sequence}
use Rattle.x509_der.specs.Plan.{got, plain_only}
use Rattle.x509_der.specs.Promises.{IsFront, reason_alone}
use Rattle.x509_der.specs.Reading.{strict}
use Rattle.x509_der.proofs.Results.{bytes_behind, bytes_before}
use Rattle.x509_der.proofs.Sentences.{front_read, front_only}
use Rattle.x509_der.proofs.Strict.{front_loosely}
use Rattle.x509_der.proofs.Words.{sequence_laws}
use Rattle.x509_fields.specs.declared.error.X509Error.{X509Error}
use Rattle.x509_fields.specs.Fields.{Field, lifted}
use Rattle.x509_fields.specs.Signed.{Signed, signed, HoldsPart, SignedStands}

-- a value's window is the bytes that it was read from
abbrev pub HasWindow : {A : Type 0} → Field A → (A → List ℕ) → Type 0
HasWindow {A} p window = (place : List ℕ) (a : A) (next : List ℕ) → p.Is place a next → place ≡ window a ++ next

pub signed_window : {A : Type 0} (part : Field A) → HasWindow (signed part) (λ s. s.raw)
unfolding signed
signed_window {A} part place s next is =
    let same : is.0 ≡ s.raw = ap (λ (f : List ℕ → Signed A). (f is.0).raw) is.3.3.3.3.3.0 ∙ ap (λ (x : Signed A). x.raw) is.4 in
    is.2 ∙ ap (λ (raw : List ℕ). raw ++ next) same

pub window_of_front : {A : Type 0} (p : Field A) (window : A → List ℕ) → HasWindow p window → (place : List ℕ) (a : A) (rest : List ℕ) → IsFront p place a rest → place ≡ window a ++ rest
window_of_front p window is_window place a rest front =
    front.1 ∙ ap (λ (bytes : List ℕ). bytes ++ rest) (is_window front.0 a [] front.2 ∙ append-nil (window a))

-- the part's value within the whole
part_within : {A : Type 0} (part : Field A) (place : List ℕ) (s : Signed A) (next : List ℕ) → (signed part).Is place s next
    → (contents between : List ℕ) × ((lifted sequence).Is place contents next) × part.Is contents s.tbs between
unfolding signed
part_within {A} part place s next is =
    let same : is.3.3.0 ≡ s.tbs = ap (λ (f : List ℕ → Signed A). (f is.0).tbs) is.3.3.3.3.3.0 ∙ ap (λ (x : Signed A). x.tbs) is.4 in
    (is.3.0, is.3.3.1, is.3.2, subst (λ (a : A). part.Is is.3.0 a is.3.3.1) same is.3.3.2)

holds_part : {A : Type 0} (part : Field A) (window : A → List ℕ) → HasWindow part window → (place : List ℕ) (s : Signed A) (rest : List ℕ) → IsFront (signed part) place s rest → HoldsPart window s
unfolding sequence
holds_part part window is_window place s rest front =
    let whole : front.0 ≡ s.raw = signed_window part front.0 s [] front.2 ∙ append-nil s.raw in
    let inside = part_within part front.0 s [] front.2 in
    record {
      element = record { header = inside.2.0; contents = inside.0 };
      behind = inside.1;
      whole = subst (λ (bytes : List ℕ). Elem strict bytes (record { header = inside.2.0; contents = inside.0 }) []) whole inside.2.1;
      contents = is_window inside.0 s.tbs inside.1 inside.3;
    }

bytes_in : (place contents : List ℕ) → IsBytes place → sequence.Is place contents [] → IsBytes contents
bytes_in place contents k is =
    let read = sequence_laws.is_element.lawful.agrees.complete place contents [] k is in
    let parts = sequence_laws.encloses.header place contents [] k read in
    bytes_before (contents ++ []) contents [] refl (bytes_behind place parts.0 (contents ++ []) parts.2 k)

read_back : {A : Type 0} (part : Field A) (window : A → List ℕ) → HasWindow part window → IsLawful part → (contents : List ℕ) (a : A) (between : List ℕ) → IsBytes contents → part.Is contents a between → IsFront part (window a) a []
read_back part window is_window laws contents a between k is =
    let front = front_read part laws.agrees laws.is_local contents a between k (laws.agrees.complete contents a between k is) in
    let same : front.0 ≡ window a = is_window front.0 a [] front.2 ∙ append-nil (window a) in
    (window a, sym (append-nil (window a)), subst (λ (bytes : List ℕ). part.Is bytes a []) same front.2)

reads_back : {A : Type 0} (part : Field A) (window : A → List ℕ) → HasWindow part window → IsLawful part → (place : List ℕ) (s : Signed A) (rest : List ℕ) → IsBytes place → IsFront (signed part) place s rest → IsFront part (window s.tbs) s.tbs []
reads_back part window is_window laws place s rest k front =
    let inside = part_within part front.0 s [] front.2 in
    read_back part window is_window laws inside.0 s.tbs inside.1 (bytes_in front.0 inside.0 (bytes_before place front.0 rest front.1 k) inside.2) inside.3

pub signed_stands : {A : Type 0} (part : Field A) (window : A → List ℕ) → HasWindow part window → IsLawful part → IsLawful (signed part) → (bytes : List ℕ) (s : Signed A) (rest : List ℕ) → IsBytes bytes
    → (signed part).read bytes ≡ got s rest → SignedStands part window bytes s rest
signed_stands part window is_window laws whole bytes s rest k read =
    let front = front_read (signed part) whole.agrees whole.is_local bytes s rest k read in
    record {
      reading = read;
      whole_window = window_of_front (signed part) (λ x. x.raw) (signed_window part) bytes s rest front;
      signed_part = holds_part part window is_window bytes s rest front;
      reads_back = reads_back part window is_window laws bytes s rest k front;
    }

pub signed_front_stands : {A : Type 0} (part : Field A) (window : A → List ℕ) → HasWindow part window → IsLawful part → IsLawful (signed part) → (bytes : List ℕ) (s : Signed A) (rest : List ℕ) → IsBytes bytes
    → IsFront (signed part) bytes s rest → SignedStands part window bytes s rest
signed_front_stands part window is_window laws whole bytes s rest k front =
    signed_stands part window is_window laws whole bytes s rest k (front_only (signed part) whole.agrees whole.is_local bytes s rest k front)

-- one that stands plainly
pub plain_front_stands : {A : Type 0} (part : Field A) (window : A → List ℕ) → HasWindow part window → IsLawful part → IsLawful (signed part) → IsMarked (signed part) → (why : Refusal X509Error) (bytes : List ℕ) (s : Signed A) (rest : List ℕ) → IsBytes bytes
    → IsFront (plain_only why (signed part)) bytes s rest → SignedStands part window bytes s rest
plain_front_stands part window is_window laws whole marked why bytes s rest k front =
    signed_front_stands part window is_window laws whole bytes s rest k (front_loosely why (signed part) marked bytes s rest k front)

-- what holds of what was read, whether or not a refusal has its place
pub placed : {E X : Type 0} (P : X → Type 0) (result : Result X (Located E)) → IfOk (reason_alone result) P → IfOk result P
placed P (Ok x) holds = holds
placed P (Err e) _ = tt
