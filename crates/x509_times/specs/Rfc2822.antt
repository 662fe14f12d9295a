-- A time as internet messages write it (RFC 2822, section 3.3).
use Rattle.std.specs.Prelude.{ℕ, List, ◌++◌, codes, if◌then◌else◌, Option, Some, None, pos, unsigned_abs, int_lt}
use Rattle.std.specs.Fmt.{decimal}
use Rattle.jiff_core.specs.Date.{weekday_of}
use Rattle.x509_times.specs.TimeText.{day_name, month_name, year_text, clock_text, zone_text}
use Rattle.x509_times.specs.OffsetDateTimes.{civil_of, moment_of}
use Rattle.x509_times.specs.declared.offset_date_time.OffsetDateTime.{OffsetDateTime}
use Rattle.x509_times.specs.declared.text.rfc2822.Rfc2822.{Rfc2822}

-- of the civil date
abbrev pub weekday : OffsetDateTime → List ℕ
weekday t = day_name (weekday_of (civil_of t).date)

-- day of the week, day without padding, month and year; hh:mm:ss and zone: as `Thu, 1 Jan 1970 00:00:00 +0000`.
-- It is the civil time that is shown; a fraction of a second is left out
abbrev pub message_text : OffsetDateTime → List ℕ
message_text t =
    weekday t ++ codes ", " ++ decimal (moment_of t).day ++ codes " " ++ month_name (moment_of t).month ++ codes " " ++ year_text (unsigned_abs (moment_of t).year)
    ++ codes " " ++ clock_text (moment_of t).hour (moment_of t).minute (moment_of t).second ++ codes " " ++ zone_text (moment_of t).offset

-- messages have the years from 1900 on
abbrev pub rfc2822_text : OffsetDateTime → Option (List ℕ)
rfc2822_text t = if int_lt (moment_of t).year (pos 1900) then None else Some (message_text t)

-- what a date-time in that form shows
abbrev pub shown_text : Rfc2822 → List ℕ
shown_text t = message_text t.time
