use Rattle.std.specs.Prelude.{◌≡◌, ℕ, List}
use Rattle.std.specs.Borrow.{Bor}
use Rattle.x509_validators.specs.Message.{Message, warning, error, Logged}

-- a call at a reference to the text
abbrev pub called_at : {F : Type 0} → (F → Bor (List ℕ) → Logged → F → Type 0) → F → List ℕ → Logged → F → Type 0
called_at step f text r f' = (shown : Bor (List ℕ)) × (shown.now ≡ text) × step f shown r f'

-- one call of the closure of the message's level; the other closure stays as it was
abbrev pub calls : {W E : Type 0} → (W → Bor (List ℕ) → Logged → W → Type 0) → (E → Bor (List ℕ) → Logged → E → Type 0) → W → E → Message → Logged → W → E → Type 0
calls on_warning on_error w e (warning text) r w' e' = called_at on_warning w text r w' × (e' ≡ e)
calls on_warning on_error w e (error text) r w' e' = called_at on_error e text r e' × (w' ≡ w)
