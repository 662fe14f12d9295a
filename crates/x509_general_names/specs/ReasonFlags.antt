-- ReasonFlags ::= BIT STRING {
--     unused                (0),
--     keyCompromise         (1),
--     cACompromise          (2),
--     affiliationChanged    (3),
--     superseded            (4),
--     cessationOfOperation  (5),
--     certificateHold       (6),
--     privilegeWithdrawn    (7),
--     aACompromise          (8) }
-- (RFC 5280, 4.2.1.13)
use Rattle.std.specs.Prelude.{◌≡◌, true, ℕ, List, [], ◌∷◌, codes, Result}
use Rattle.x509_der.specs.Laws.{IsMarkedElement, differs, Away}
use Rattle.x509_der.specs.Leaves.{bits, implicit_bits}
use Rattle.x509_der.specs.Plan.{Plan, Tagged, context, mapped, outcome_at}
use Rattle.x509_der.proofs.Marking.{marked}
use Rattle.x509_der.proofs.Results.{then_ok}
use Rattle.x509_fields.specs.Errors.{is_x509_memory}
use Rattle.x509_fields.specs.Fields.{Field, lifted, as_x509_renames}
use Rattle.x509_fields.specs.NamedBits.{named_bits, named_bits_marked}
use Rattle.x509_general_names.specs.declared.reason_flags.ReasonFlags.{ReasonFlags}

-- ---- the value

abbrev pub reason_flags_of : ReasonFlags → ℕ
reason_flags_of r = r.flags

-- ---- the grammar

unfoldable pub reason_flags : Field ℕ
reason_flags = named_bits (lifted bits)

-- [n] IMPLICIT ReasonFlags
unfoldable pub implicit_reasons : ℕ → Field ℕ
implicit_reasons n = named_bits (lifted (implicit_bits n))

-- ---- the text

-- the names of the bits, from bit 0 on
abbrev pub reason_names : List (List ℕ)
reason_names =
    codes "Unused" ∷
    codes "Key Compromise" ∷
    codes "CA Compromise" ∷
    codes "Affiliation Changed" ∷
    codes "Superseded" ∷
    codes "Cessation Of Operation" ∷
    codes "Certificate Hold" ∷
    codes "Privilege Withdrawn" ∷
    codes "AA Compromise" ∷
    []

-- the standard's names of the bits
abbrev pub reason_words : List (List ℕ)
reason_words =
    codes "unused" ∷
    codes "key_compromise" ∷
    codes "ca_compromise" ∷
    codes "affiliation_changed" ∷
    codes "superseded" ∷
    codes "cessation_of_operation" ∷
    codes "certificate_hold" ∷
    codes "privilege_withdrawn" ∷
    codes "aa_compromise" ∷
    []

-- ---- laws

pub reason_flags_laws : IsMarkedElement is_x509_memory reason_flags
unfolding reason_flags
reason_flags_laws = named_bits_marked is_x509_memory (lifted bits) (search (marked, as_x509_renames) depth 20)

pub implicit_reasons_laws : (n : ℕ) → IsMarkedElement is_x509_memory (implicit_reasons n)
unfolding implicit_reasons
implicit_reasons_laws n = named_bits_marked is_x509_memory (lifted (implicit_bits n)) (search (marked, as_x509_renames) depth 20)

-- what is made of a field stands where the field does
pub mapped_away : {F A B : Type 0} (mine : Tagged) (p : Plan F A) (f : A → Result B F) → Away mine p → Away mine (mapped p f)
mapped_away {F} mine p f h = record { away = λ place b next k e. let s = then_ok (p.read place) (λ a. outcome_at (f a)) b next e in h.away place s.0 s.1 k s.2 }

-- behind a field that may be absent: no header of another tag is one of reasons
pub implicit_reasons_away : (mine : Tagged) (n : ℕ) → differs mine (context n) ≡ true → Away mine (implicit_reasons n)
unfolding implicit_reasons
implicit_reasons_away mine n apart = mapped_away mine (lifted (implicit_bits n)) _ (search (marked, apart))
