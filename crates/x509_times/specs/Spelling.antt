-- Which octets spell which time: UTCTime (X.680, section 47) and GeneralizedTime (section 46), with the years, seconds and fractions
-- of RFC 5280, section 4.1.2.5.
use Rattle.std.specs.Prelude.{◌≡◌, ◌≤◌, ◌<◌, ◌⊎◌, ℕ, ◌+◌, ◌*◌, ◌/◌, ◌%◌, ◌==◌, if◌then◌else◌, List, [], ◌∷◌, ◌++◌, codes, IsTrue, ℤ, pos, neg_ℤ, ◌≤ℤ◌, unsigned_abs}
use Rattle.std.specs.Int.{is_negative}
use Rattle.x509_times.specs.Moments.{Moment, IsOffset, is_real}

-- two decimal digits
abbrev pub two_digits : ℕ → List ℕ
two_digits n = (48 + n / 10) ∷ (48 + n % 10) ∷ []

-- `+` or `-`, hh and mm: by how many minutes the clock is ahead of UTC, or behind it
pub record SpellsDifferential (octets : List ℕ) (offset : ℤ) : Type 0 where
  pub hours : ℕ
  pub minutes : ℕ
  pub hours_in : hours < 24
  pub minutes_in : minutes < 60
  pub spelled :
      ((octets ≡ codes "+" ++ two_digits hours ++ two_digits minutes) × (offset ≡ pos (hours * 60 + minutes)))
      ⊎ ((octets ≡ codes "-" ++ two_digits hours ++ two_digits minutes) × (offset ≡ neg_ℤ (pos (hours * 60 + minutes))))

-- `Z` is UTC
abbrev pub SpellsZone : List ℕ → ℤ → Type 0
SpellsZone octets offset = ((octets ≡ codes "Z") × (offset ≡ pos 0)) ⊎ SpellsDifferential octets offset

-- ss, which may be left out
abbrev pub SpellsSecond : List ℕ → ℕ → Type 0
SpellsSecond octets second = (octets ≡ two_digits second) ⊎ ((octets ≡ []) × (second ≡ 0))

-- from 50 on the year is 19YY, and below it 20YY
abbrev pub IsYearOfCentury : ℕ → ℤ → Type 0
IsYearOfCentury yy year = ((yy < 50) × (year ≡ pos (2000 + yy))) ⊎ ((50 ≤ yy) × (yy < 100) × (year ≡ pos (1900 + yy)))

-- YYMMDDhhmm, ss which may be left out, and a zone, say a moment that the calendar and a clock have
pub record SpellsUtc (octets : List ℕ) (m : Moment) : Type 0 where
  pub yy : ℕ
  pub ss : List ℕ
  pub zone : List ℕ
  pub spelled : octets ≡ two_digits yy ++ two_digits m.month ++ two_digits m.day ++ two_digits m.hour ++ two_digits m.minute ++ ss ++ zone
  pub year : IsYearOfCentury yy m.year
  pub second : SpellsSecond ss m.second
  pub offset : SpellsZone zone m.offset
  pub real : IsTrue (is_real m)
  pub whole : m.nanosecond ≡ 0

-- YYYYMMDDhhmmss and a zone
pub record SpellsGeneralized (octets : List ℕ) (m : Moment) : Type 0 where
  pub yyyy : ℕ
  pub zone : List ℕ
  pub spelled : octets
      ≡ two_digits (yyyy / 100) ++ two_digits (yyyy % 100) ++ two_digits m.month ++ two_digits m.day ++ two_digits m.hour ++ two_digits m.minute
      ++ two_digits m.second ++ zone
  pub year : (yyyy < 10000) × (m.year ≡ pos yyyy)
  pub offset : SpellsZone zone m.offset
  pub real : IsTrue (is_real m)
  pub whole : m.nanosecond ≡ 0

-- ---- the usual spelling of a moment

-- `Z`, or a sign, hh and mm
abbrev pub zone_octets : ℤ → List ℕ
zone_octets offset =
    if unsigned_abs offset == 0 then codes "Z"
    else ((if is_negative offset then codes "-" else codes "+") ++ two_digits (unsigned_abs offset / 60) ++ two_digits (unsigned_abs offset % 60))

abbrev pub utc_octets : Moment → List ℕ
utc_octets m =
    two_digits (unsigned_abs m.year % 100) ++ two_digits m.month ++ two_digits m.day ++ two_digits m.hour ++ two_digits m.minute
    ++ two_digits m.second ++ zone_octets m.offset

abbrev pub generalized_octets : Moment → List ℕ
generalized_octets m =
    two_digits (unsigned_abs m.year / 100) ++ two_digits (unsigned_abs m.year % 100) ++ two_digits m.month ++ two_digits m.day
    ++ two_digits m.hour ++ two_digits m.minute ++ two_digits m.second ++ zone_octets m.offset

-- a real moment of whole seconds, less than a day ahead of UTC or behind it
pub record IsWhole (m : Moment) : Type 0 where
  pub real : IsTrue (is_real m)
  pub whole : m.nanosecond ≡ 0
  pub offset : IsOffset m.offset

-- UTCTime has these years
abbrev pub IsUtcYear : ℤ → Type 0
IsUtcYear year = (pos 1950 ≤ℤ year) × (year ≤ℤ pos 2049)

-- GeneralizedTime has these years
abbrev pub IsGeneralizedYear : ℤ → Type 0
IsGeneralizedYear year = (pos 0 ≤ℤ year) × (year ≤ℤ pos 9999)
