-- What a logger that keeps the messages has after a run.
use Rattle.std.proofs.Common.{◌≡◌, List, [], ◌∷◌, ◌++◌, inl, inr, append_assoc, append-nil}
use Rattle.x509_fields.specs.declared.error.X509Error.{X509Error}
use Rattle.x509_fields.specs.declared.error.X509Error.TheVariants.{OutOfMemory}
use Rattle.x509_validators.specs.Message.{Message, warning, error, WantsMemory, warnings_of, errors_of}
use Rattle.x509_fields.specs.Steps.{Took, StoppedAt}
use Rattle.x509_validators.specs.VecLogger.{Kept, keeps}

pub warnings-kept : (s : Kept) (ms : List Message) (t : Kept) → Took keeps s ms t → t.warnings ≡ s.warnings ++ warnings_of ms
unfolding Took
warnings-kept s [] t p = simp (append-nil, ← p)
warnings-kept s (warning text ∷ ms) t p = simp (warnings-kept p.0 ms t p.2, p.1, append_assoc)
warnings-kept s (error text ∷ ms) t p = simp (warnings-kept p.0 ms t p.2, p.1)

pub errors-kept : (s : Kept) (ms : List Message) (t : Kept) → Took keeps s ms t → t.errors ≡ s.errors ++ errors_of ms
unfolding Took
errors-kept s [] t p = simp (append-nil, ← p)
errors-kept s (warning text ∷ ms) t p = simp (errors-kept p.0 ms t p.2, p.1)
errors-kept s (error text ∷ ms) t p = simp (errors-kept p.0 ms t p.2, p.1, append_assoc)

-- it refuses for want of memory alone
pub refused-for-memory : (s : Kept) (ms : List Message) (e : X509Error) (t : Kept) → StoppedAt WantsMemory keeps s ms e t → e ≡ OutOfMemory
unfolding StoppedAt
refused-for-memory s [] e t p = p.0
refused-for-memory s (m ∷ ms) e t p = elim p [ inl w ↦ w.0 | inr w ↦ elim w [ inl v ↦ v.0 | inr v ↦ refused-for-memory v.0 ms e t v.2 ] ]

pub ruleset kept = (warnings-kept, errors-kept, refused-for-memory)
