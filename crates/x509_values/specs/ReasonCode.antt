-- CRLReason ::= ENUMERATED {
--     unspecified           (0),
--     keyCompromise         (1),
--     cACompromise          (2),
--     affiliationChanged    (3),
--     superseded            (4),
--     cessationOfOperation  (5),
--     certificateHold       (6),
--          -- 7 is not used
--     removeFromCRL         (8),
--     privilegeWithdrawn    (9),
--     aACompromise         (10) }
-- (RFC 5280, 5.3.1), with 7 among them
use Rattle.std.specs.Prelude.{ℕ, Ok, nat_le, if◌then◌else◌}
use Rattle.x509_der.specs.Laws.{IsMarkedElement}
use Rattle.x509_der.specs.Leaves.{BerPlan, enumerated}
use Rattle.x509_der.specs.Plan.{mapped}
use Rattle.x509_der.specs.Primitives.{ValueOrBad, as_refusal, bad_value}
use Rattle.x509_der.specs.Promises.{is_ber_memory}
use Rattle.x509_der.proofs.Marking.{marked, mapped_marked, enumerated_marked}
use Rattle.x509_der.proofs.WantOfMemory.{kind_refused}
use Rattle.x509_fields.specs.Errors.{is_x509_memory}
use Rattle.x509_fields.specs.Fields.{Field, lifted, as_x509_renames}
use Rattle.x509_values.specs.declared.reason_code.ReasonCodeValue.{ReasonCodeValue}

-- ---- the value

abbrev pub reason_code_of : ReasonCodeValue → ℕ
reason_code_of r = r.0.0

-- ---- the grammar

-- from 0 to 10
abbrev pub reason_in : ℕ → ValueOrBad ℕ
reason_in n = if nat_le n 10 then Ok n else bad_value

unfoldable pub reason_number : BerPlan ℕ
reason_number = mapped enumerated (λ n. as_refusal (reason_in n))

unfoldable pub reason_code : Field ℕ
reason_code = lifted reason_number

-- ---- laws

pub reason_number_laws : IsMarkedElement is_ber_memory reason_number
unfolding reason_number
reason_number_laws = mapped_marked is_ber_memory enumerated (λ n. as_refusal (reason_in n)) enumerated_marked (λ n r e. kind_refused (reason_in n) r e)

pub reason_code_laws : IsMarkedElement is_x509_memory reason_code
unfolding reason_code
reason_code_laws = search (marked, as_x509_renames, reason_number_laws) depth 20
