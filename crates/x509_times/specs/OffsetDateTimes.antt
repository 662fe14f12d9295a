-- What contracts see of a date-time with an offset.
use Rattle.std.specs.Prelude.{ℤ}
use Rattle.jiff_core.specs.declared.civil.datetime.DateTime.{DateTime}
use Rattle.x509_times.specs.declared.offset_date_time.OffsetDateTime.{OffsetDateTime}
use Rattle.x509_times.specs.Moments.{Moment, moment_at}

abbrev pub civil_of : OffsetDateTime → DateTime
civil_of t = t.civil

-- minutes ahead of UTC
abbrev pub offset_of : OffsetDateTime → ℤ
offset_of t = t.offset_minutes

abbrev pub moment_of : OffsetDateTime → Moment
moment_of t = moment_at (civil_of t) (offset_of t)
