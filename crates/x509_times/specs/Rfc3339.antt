-- A time as internet protocols write it (RFC 3339, section 5.6).
use Rattle.std.specs.Prelude.{List, ℕ, ◌++◌, ◌||◌, codes, if◌then◌else◌, Option, Some, None, pos, unsigned_abs, int_lt}
use Rattle.x509_times.specs.Moments.{Moment}
use Rattle.x509_times.specs.OffsetDateTimes.{moment_of}
use Rattle.x509_times.specs.Spelling.{two_digits}
use Rattle.x509_times.specs.TimeText.{year_text, clock_text, fraction_text, utc_offset_text}
use Rattle.x509_times.specs.declared.text.rfc3339.Rfc3339.{Rfc3339}

-- date-time: full-date, `T` and full-time, as `2026-11-22T14:31:06Z`
abbrev pub date_time_text : Moment → List ℕ
date_time_text m =
    year_text (unsigned_abs m.year) ++ codes "-" ++ two_digits m.month ++ codes "-" ++ two_digits m.day
    ++ codes "T" ++ clock_text m.hour m.minute m.second ++ fraction_text m.nanosecond ++ utc_offset_text m.offset

-- date-fullyear has four digits
abbrev pub rfc3339_text : Moment → Option (List ℕ)
rfc3339_text m = if int_lt m.year (pos 0) || int_lt (pos 9999) m.year then None else Some (date_time_text m)

-- what a date-time in that form shows
abbrev pub shown_text : Rfc3339 → List ℕ
shown_text t = date_time_text (moment_of t.time)
