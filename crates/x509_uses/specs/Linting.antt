-- What a validator and a visitor of a user's own say.
use Rattle.std.specs.Prelude.{◌≡◌, ℕ, ◌+◌, ◌-◌, ◌^◌, min, List, length, nat_lt, codes, if◌then◌else◌, Ok}
use Rattle.x509_validators.specs.Message.{Message, warning_if}
use Rattle.x509_fields.specs.Visits.{Visited}
use Rattle.x509_visitors.specs.CertificateEvents.{Event, of_extensions}
use Rattle.x509_visitors.specs.ExtensionEvents.{extension}

-- a serial must not be longer than 20 octets (RFC 5280, 4.1.2.2)
unfoldable pub serial_warnings : List ℕ → List Message
serial_warnings serial = warning_if (nat_lt 20 (length serial)) (codes "Serial of more than 20 octets")

-- a critical extension is counted, up to the greatest number of 32 bits; the other visits are left to their defaults
abbrev pub counts : ℕ → Event → Visited → ℕ → Type 0
counts s (of_extensions (extension x)) r t = (r ≡ Ok tt) × (t ≡ (if x.critical then min (s + 1) (2 ^ 32 - 1) else s))
counts s _ r t = ⊥
