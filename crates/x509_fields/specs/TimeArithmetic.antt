-- Sums and differences of times, and the times of clocks.
use Rattle.std.specs.Prelude.{◌≡◌, ◌↔◌, Option, Some, None, IsSome, IfSome, if◌then◌else◌, int_lt, Result, IsOk, IfOk, IfErr, ℤ, pos, neg_ℤ, ◌+ℤ◌, ◌-ℤ◌, ◌*ℤ◌}
use Rattle.jiff_core.specs.Calendar.{IsBetween}
use Rattle.jiff_core.specs.DateTime.{civil_nanos}
use Rattle.x509_times.specs.Moments.{IsCivil}
use Rattle.x509_fields.specs.declared.error.X509Error.{X509Error}
use Rattle.x509_fields.specs.declared.error.X509Error.TheVariants as x509
use Rattle.x509_fields.specs.declared.time.asn1_time.ASN1Time.{ASN1Time}
use Rattle.x509_fields.specs.Times.{datetime_of, civil_of, offset_of, instant_of, IsInFormOfYear}

-- so many nanoseconds later, or earlier for a number below zero: the same offset, in the form of its year; none where the civil
-- year would leave -9999 to 9999
abbrev pub IsLater : ASN1Time → ℤ → Option ASN1Time → Type 0
IsLater t nanos result =
    (IsSome result ↔ IsCivil (civil_nanos (civil_of (datetime_of t)) +ℤ nanos))
    × IfSome result (λ r. (instant_of r ≡ instant_of t +ℤ nanos) × (offset_of (datetime_of r) ≡ offset_of (datetime_of t)) × IsInFormOfYear r)

-- the nanoseconds from the second time's instant to that of the first; none unless the first is later
abbrev pub since : ASN1Time → ASN1Time → Option ℤ
since later earlier = if int_lt (instant_of earlier) (instant_of later) then Some (instant_of later -ℤ instant_of earlier) else None

-- the time that many seconds after 1970-01-01T00:00:00Z, or before it, with offset zero and in the form of its year; `InvalidDate`
-- outside the years -9999 to 9999
abbrev pub IsAtSecond : ℤ → Result ASN1Time X509Error → Type 0
IsAtSecond seconds result =
    (IsOk result ↔ IsBetween (neg_ℤ (pos 377_705_116_800)) (pos 253_402_300_799) seconds)
    × IfOk result (λ t. (instant_of t ≡ seconds *ℤ pos 1_000_000_000) × (offset_of (datetime_of t) ≡ pos 0) × IsInFormOfYear t)
    × IfErr result (λ e. e ≡ x509.InvalidDate)
