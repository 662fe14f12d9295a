-- Times in seconds since 1970-01-01T00:00:00Z.
use Rattle.std.specs.Prelude.{◌≡◌, ℤ, pos, Option, Some, None}
use Rattle.x509_times.specs.Moments.{floor_seconds}
use Rattle.x509_fields.specs.declared.time.asn1_time.ASN1Time.{ASN1Time}
use Rattle.x509_fields.specs.Times.{Time, time_of, instant_of}

-- the seconds of a time, rounded down
abbrev pub AreSecondsOf : ℤ → Time → Type 0
AreSecondsOf seconds time = (t : ASN1Time) × (time_of t ≡ time) × (seconds ≡ floor_seconds (instant_of t))

-- those of a time that is there, and else 0
abbrev pub AreSecondsOfSome : ℤ → Option Time → Type 0
AreSecondsOfSome seconds (Some time) = AreSecondsOf seconds time
AreSecondsOfSome seconds None = seconds ≡ pos 0
