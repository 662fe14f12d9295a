-- A time as text.
use Rattle.std.specs.Prelude.{ℕ, ◌+◌, ◌/◌, ◌%◌, List, [], ◌∷◌, ◌++◌, nat_lt, ◌==◌, if◌then◌else◌, codes, ℤ, pos, unsigned_abs}
use Rattle.std.specs.Fmt.{signed_decimal}
use Rattle.std.specs.Int.{is_negative}
use Rattle.std.specs.Ordering.{int_eq}
use Rattle.x509_times.specs.Moments.{Moment}
use Rattle.x509_times.specs.Spelling.{two_digits}

-- right in two places
unfoldable pub in_two_places : ℕ → List ℕ
in_two_places n = if nat_lt n 10 then codes " " ++ (48 + n) ∷ [] else two_digits n

unfoldable pub month_name : ℕ → List ℕ
month_name m =
    if m == 1 then codes "Jan" else (if m == 2 then codes "Feb" else (if m == 3 then codes "Mar" else (if m == 4 then codes "Apr"
    else (if m == 5 then codes "May" else (if m == 6 then codes "Jun" else (if m == 7 then codes "Jul" else (if m == 8 then codes "Aug"
    else (if m == 9 then codes "Sep" else (if m == 10 then codes "Oct" else (if m == 11 then codes "Nov" else codes "Dec"))))))))))

-- hh:mm:ss
unfoldable pub clock_text : ℕ → ℕ → ℕ → List ℕ
clock_text hour minute second = two_digits hour ++ codes ":" ++ two_digits minute ++ codes ":" ++ two_digits second

-- a sign and hh:mm
unfoldable pub offset_text : ℤ → List ℕ
offset_text minutes =
    (if is_negative minutes then codes "-" else codes "+") ++ two_digits (unsigned_abs minutes / 60) ++ codes ":" ++ two_digits (unsigned_abs minutes % 60)

-- the parts with spaces between them, as `Jan  1 00:00:00 1970 +00:00`; a fraction of a second is left out
abbrev pub time_text : Moment → List ℕ
time_text m =
    month_name m.month ++ codes " " ++ in_two_places m.day ++ codes " " ++ clock_text m.hour m.minute m.second ++ codes " "
    ++ signed_decimal m.year ++ codes " " ++ offset_text m.offset

-- ---- as internet messages write it (RFC 2822, section 3.3)

-- day-name, by how many days after a Monday
unfoldable pub day_name : ℕ → List ℕ
day_name n =
    if n == 0 then codes "Mon" else (if n == 1 then codes "Tue" else (if n == 2 then codes "Wed" else (if n == 3 then codes "Thu"
    else (if n == 4 then codes "Fri" else (if n == 5 then codes "Sat" else codes "Sun")))))

-- year: four digits
unfoldable pub year_text : ℕ → List ℕ
year_text year = two_digits (year / 100) ++ two_digits (year % 100)

-- zone: a sign and hhmm
unfoldable pub zone_text : ℤ → List ℕ
zone_text minutes = (if is_negative minutes then codes "-" else codes "+") ++ two_digits (unsigned_abs minutes / 60) ++ two_digits (unsigned_abs minutes % 60)

-- ---- as internet protocols write it (RFC 3339, section 5.6)

abbrev pub three_digits : ℕ → List ℕ
three_digits n = (48 + n / 100) ∷ two_digits (n % 100)

-- time-secfrac: `.` and nine digits; nothing where the fraction is zero
unfoldable pub fraction_text : ℕ → List ℕ
fraction_text nanosecond =
    if nanosecond == 0 then []
    else (codes "." ++ three_digits (nanosecond / 1_000_000) ++ three_digits (nanosecond / 1000 % 1000) ++ three_digits (nanosecond % 1000))

-- time-offset: `Z` where it is zero, else a sign and hh:mm
unfoldable pub utc_offset_text : ℤ → List ℕ
utc_offset_text minutes = if int_eq minutes (pos 0) then codes "Z" else offset_text minutes
