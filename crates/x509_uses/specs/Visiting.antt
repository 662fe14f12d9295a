-- What a visitor of every visit says.
use Rattle.std.specs.Prelude.{◌≡◌, ℕ, ◌+◌, ◌-◌, ◌^◌, min, Ok}
use Rattle.x509_fields.specs.Visits.{Visited}

-- a visit is accepted and counted, up to the greatest number of 64 bits
abbrev pub counts_each : ℕ → Visited → ℕ → Type 0
counts_each s r t = (r ≡ Ok tt) × (t ≡ min (s + 1) (2 ^ 64 - 1))
