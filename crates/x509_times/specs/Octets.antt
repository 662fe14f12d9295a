-- What the contents of a UTCTime (X.680, section 47) and of a GeneralizedTime (section 46) say.
use Rattle.std.specs.Prelude.{ℕ, ◌+◌, ◌-◌, ◌*◌, List, length, drop, slice_index, ◌&&◌, ◌==◌, nat_lt, if◌then◌else◌, Option, Some, None, option_and_then, ℤ, pos, neg_ℤ, codes}
use Rattle.std.specs.Char.{is_ascii_digit}
use Rattle.std.specs.Str.{bytes_eq}
use Rattle.x509_times.specs.Moments.{Moment, is_real}

infixl 10 ◌>>=◌
abbrev pub ◌>>=◌ : {A B : Type 0} → Option A → (A → Option B) → Option B
o >>= f = option_and_then f o

-- two decimal digits, and the octets behind them
unfoldable pub pair : List ℕ → Option (ℕ × List ℕ)
pair bytes =
    if nat_lt (length bytes) 2 then None
    else (if is_ascii_digit (slice_index bytes 0) && is_ascii_digit (slice_index bytes 1)
    then Some ((slice_index bytes 0 - 48) * 10 + (slice_index bytes 1 - 48), drop 2 bytes) else None)

-- the same where a digit stands first, and else zero
unfoldable pub optional_pair : List ℕ → Option (ℕ × List ℕ)
optional_pair bytes =
    if nat_lt 0 (length bytes) && is_ascii_digit (slice_index bytes 0) then pair bytes else Some (0, bytes)

-- `+` or `-`, and minutes
abbrev pub signed_minutes : ℕ → ℕ → Option ℤ
signed_minutes sign n = if sign == 43 then Some (pos n) else (if sign == 45 then Some (neg_ℤ (pos n)) else None)

-- `Z`, or a sign and hhmm, to the end: minutes ahead of UTC
unfoldable pub zone : List ℕ → Option ℤ
zone bytes =
    if bytes_eq bytes (codes "Z") then Some (pos 0) else (do
      hours ← pair (drop 1 bytes)
      minutes ← pair hours.1
      if (length minutes.1 == 0) && nat_lt hours.0 24 && nat_lt minutes.0 60 then signed_minutes (slice_index bytes 0) (hours.0 * 60 + minutes.0) else None)

-- where the calendar and a clock have it
abbrev pub if_real : Moment → Option Moment
if_real m = if is_real m then Some m else None

-- from 50 on of the twentieth century, and below of the next (RFC 5280, section 4.1.2.5.1)
abbrev pub year_of_pair : ℕ → ℕ
year_of_pair n = if nat_lt n 50 then 2000 + n else 1900 + n

-- YYMMDDhhmm, seconds or none, and a zone
unfoldable pub utc_moment : List ℕ → Option Moment
utc_moment bytes = do
  year ← pair bytes
  month ← pair year.1
  day ← pair month.1
  hour ← pair day.1
  minute ← pair hour.1
  second ← optional_pair minute.1
  offset ← zone second.1
  if_real (record { year = pos (year_of_pair year.0); month = month.0; day = day.0; hour = hour.0; minute = minute.0; second = second.0; nanosecond = 0; offset = offset })

-- YYYYMMDDhhmmss and a zone (RFC 5280, section 4.1.2.5.2)
unfoldable pub generalized_moment : List ℕ → Option Moment
generalized_moment bytes = do
  century ← pair bytes
  year ← pair century.1
  month ← pair year.1
  day ← pair month.1
  hour ← pair day.1
  minute ← pair hour.1
  second ← pair minute.1
  offset ← zone second.1
  if_real (record { year = pos (century.0 * 100 + year.0); month = month.0; day = day.0; hour = hour.0; minute = minute.0; second = second.0; nanosecond = 0; offset = offset })
