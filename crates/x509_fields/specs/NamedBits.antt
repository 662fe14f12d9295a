-- Named bits as a field: a string of bits, of which the flags are kept.
use Rattle.std.specs.Prelude.{ℕ, Bool, Ok}
use Rattle.x509_der.specs.declared.error.Err.{Err as Refusal}
use Rattle.x509_der.specs.Laws.{IsMarkedElement}
use Rattle.x509_der.specs.Plan.{Plan, mapped}
use Rattle.x509_der.specs.Primitives.{Bits}
use Rattle.x509_der.proofs.Marking.{mapped_marked}
use Rattle.x509_fields.specs.Flags.{flags_in}

abbrev pub named_bits : {F : Type 0} → Plan F Bits → Plan F ℕ
named_bits p = mapped p (λ b. Ok (flags_in b))

-- ---- laws

pub named_bits_marked : {E : Type 0} (is_memory : E → Bool) (p : Plan (Refusal E) Bits) → IsMarkedElement is_memory p → IsMarkedElement is_memory (named_bits p)
named_bits_marked is_memory p h = mapped_marked is_memory p _ h (λ b r e. absurd cc)
