-- Whether a certificate is valid when a clock is read, and for how long it will be.
use Rattle.std.specs.Prelude.{◌≡◌, ◌↔◌, Option, IsSome, IfSome, ℤ, pos, neg_ℤ, ◌-ℤ◌, ◌*ℤ◌, ◌≤ℤ◌, ◌<ℤ◌}
use Rattle.std.specs.Int.{int_div_euclid}
use Rattle.jiff_core.specs.Calendar.{IsBetween}
use Rattle.x509_fields.specs.declared.time.asn1_time.ASN1Time.{ASN1Time}
use Rattle.x509_fields.specs.Times.{instant_of, time_of}
use Rattle.x509_times.specs.Moments.{unix_seconds}
use Rattle.x509_certs.specs.declared.validity.Validity.{Validity}

-- a second of the years -9999 to 9999, since 1970-01-01T00:00:00Z
abbrev pub IsClockSecond : ℤ → Type 0
IsClockSecond seconds = IsBetween (neg_ℤ (pos 377_705_116_800)) (pos 253_402_300_799) seconds

-- the instant of a second since 1970-01-01T00:00:00Z, in nanoseconds
abbrev pub instant_at : ℤ → ℤ
instant_at seconds = seconds *ℤ pos 1_000_000_000

-- the instant lies between both moments or is one of them
abbrev pub IsValidAt : Validity → ℤ → Type 0
IsValidAt v instant = (instant_of v.not_before ≤ℤ instant) × (instant ≤ℤ instant_of v.not_after)

-- the nanoseconds from the instant to the last moment, where it is valid then and the last moment is still to come
abbrev pub IsLeftAt : Validity → ℤ → Option ℤ → Type 0
IsLeftAt v instant left =
    (IsSome left ↔ (IsValidAt v instant × (instant <ℤ instant_of v.not_after)))
    × IfSome left (λ nanos. nanos ≡ instant_of v.not_after -ℤ instant)

-- valid at a second of the years -9999 to 9999
abbrev pub IsValidAtSecond : Validity → ℤ → Type 0
IsValidAtSecond v seconds = IsClockSecond seconds × IsValidAt v (instant_at seconds)

-- the same from a second of those years on; none at another
abbrev pub IsTimeLeft : Validity → ℤ → Option ℤ → Type 0
IsTimeLeft v seconds left =
    (IsSome left ↔ (IsValidAtSecond v seconds × (instant_at seconds <ℤ instant_of v.not_after)))
    × IfSome left (λ nanos. nanos ≡ instant_of v.not_after -ℤ instant_at seconds)

-- whole days of 86,400 seconds, rounded down
abbrev pub floor_days : ℤ → ℤ
floor_days seconds = int_div_euclid seconds (pos 86_400)

-- from a time to the last moment, both by whole seconds
abbrev pub days_left : Validity → ASN1Time → ℤ
days_left v time = floor_days (unix_seconds (time_of v.not_after).moment -ℤ unix_seconds (time_of time).moment)
