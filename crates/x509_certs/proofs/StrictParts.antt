-- A strict reader of signed parts takes back the signed part of a certificate that a strict reader took.
use Rattle.std.proofs.Common.{◌≡◌, ℕ, Bool, true, List, [], ◌++◌, refl, sym, ap, subst, ◌∙◌}
use Rattle.std.proofs.lemmas.List.{append-nil}
use Rattle.x509_der.specs.Laws.{IsBytes, IsMarkedElement}
use Rattle.x509_der.specs.Leaves.{sequence}
use Rattle.x509_der.specs.Plan.{got}
use Rattle.x509_der.specs.Promises.{IsFront}
use Rattle.x509_der.proofs.Marking.{sequence_marked}
use Rattle.x509_der.proofs.Results.{bytes_behind, bytes_before}
use Rattle.x509_der.proofs.Sentences.{front_read}
use Rattle.x509_fields.specs.Errors.{is_x509_memory}
use Rattle.x509_fields.specs.Fields.{Field}
use Rattle.x509_fields.specs.Signed.{Signed, signed}
use Rattle.x509_fields.proofs.SignedParts.{HasWindow}
use Rattle.x509_certs.specs.TbsCertificate.{tbs, tbs_by, tbs_laws}
use Rattle.x509_certs.specs.Certificate.{Certificate, certificate, certificate_by}
use Rattle.x509_certs.specs.Windows.{tbs_window}

-- what stands plainly stands plainly in its own window
plainly_in_window : {A : Type 0} (part : Field A) (window : A → List ℕ) → HasWindow part window → IsMarkedElement is_x509_memory part → (contents : List ℕ) (a : A) (between : List ℕ) → IsBytes contents → part.Plain contents a between
    → part.Plain (window a) a []
plainly_in_window {A} part window is_window laws contents a between k plain =
    let agrees = laws.laws.lawful.agrees in
    let is : part.Is contents a between = laws.marked.marks.is contents a between k plain in
    let read : part.read contents ≡ got a between = agrees.complete contents a between k is in
    let split : contents ≡ window a ++ between = is_window contents a between is in
    let both : IsBytes (window a ++ between) = subst IsBytes split k in
    let own : IsBytes (window a) = bytes_before contents (window a) between split k in
    let read_split : part.read (window a ++ between) ≡ got a between = subst (λ (bytes : List ℕ). part.read bytes ≡ got a between) split read in
    let mark : part.marks (window a) ≡ true =
    ap part.marks (sym (append-nil (window a))) ∙ laws.marked.again.again (window a) a between [] both read_split ∙ ap part.marks (sym split) ∙ laws.marked.marks.marked contents a between k plain in
    let front = front_read part agrees laws.laws.lawful.is_local contents a between k read in
    let same : front.0 ≡ window a = is_window front.0 a [] front.2 ∙ append-nil (window a) in
    let alone : part.Is (window a) a [] = subst (λ (bytes : List ℕ). part.Is bytes a []) same front.2 in
    laws.marked.marks.told (window a) a [] own (agrees.complete (window a) a [] own alone) tt mark

plain_part : {A : Type 0} (part : Field A) (window : A → List ℕ) → HasWindow part window → IsMarkedElement is_x509_memory part → (place : List ℕ) (s : Signed A) (next : List ℕ) → IsBytes place → (signed part).Plain place s next
    → part.Plain (window s.tbs) s.tbs []
unfolding signed
plain_part {A} part window is_window laws place s next k plain =
    let inside = plain.3 in
    let fields = inside.2 in
    let same : fields.0 ≡ s.tbs = ap (λ (f : List ℕ → Signed A). (f plain.0).tbs) fields.3.3.3.0 ∙ ap (λ (x : Signed A). x.tbs) plain.4 in
    let is : sequence.Is place inside.0 next = sequence_marked.marked.marks.is place inside.0 next k inside.1 in
    let parts = sequence_marked.laws.encloses.header place inside.0 next k (sequence_marked.laws.is_element.lawful.agrees.complete place inside.0 next k is) in
    let own : IsBytes inside.0 = bytes_before (inside.0 ++ next) inside.0 next refl (bytes_behind place parts.0 (inside.0 ++ next) parts.2 k) in
    subst (λ (a : A). part.Plain (window a) a []) same (plainly_in_window part window is_window laws inside.0 fields.0 fields.1 own fields.2)

pub strict_part : (deep : Bool) (bytes : List ℕ) (c : Certificate) (rest : List ℕ) → IsBytes bytes → IsFront (certificate_by deep true) bytes c rest → IsFront (tbs_by deep true) c.tbs.raw c.tbs []
unfolding certificate
strict_part deep bytes c rest k front =
    (c.tbs.raw, sym (append-nil c.tbs.raw), plain_part (tbs deep) (λ t. t.raw) (tbs_window deep) (tbs_laws deep) front.0 c [] (bytes_before bytes front.0 rest front.1 k) front.2)
