-- A calendar's and a clock's bounds as one test.
use Rattle.std.proofs.Common.{◌≡◌, ℕ, ◌<◌, ◌≤◌, Bool, true, false, cond, ◌&&◌, ltb, leb, ℤ, pos, refl, ap, Some, None, arith}
use Rattle.x509_times.specs.OffsetDateTimes.{moment_of}
use Rattle.x509_times.specs.declared.offset_date_time.OffsetDateTime.{OffsetDateTime}
use Rattle.std.proofs.lemmas.Bool.Decides.{nat_tests}
use Rattle.jiff_core.proofs.SignedLemmas.{signed_arith}
use Rattle.jiff_core.specs.Calendar.{IsDate, IsYear, days_in_month}
use Rattle.jiff_core.specs.Time.{IsTime}
use Rattle.x509_times.specs.Moments.{Moment, is_real}
use Rattle.x509_times.specs.Octets.{if_real}

leb_yes : (a b : ℕ) → a ≤ b → leb a b ≡ true
leb_yes a b h = grind (arith, nat_tests)

ltb_yes : (a b : ℕ) → a < b → ltb a b ≡ true
ltb_yes a b h = grind (arith, nat_tests)

leb_is : (a b : ℕ) → leb a b ≡ true → a ≤ b
leb_is a b h = grind (arith, nat_tests)

ltb_is : (a b : ℕ) → ltb a b ≡ true → a < b
ltb_is a b h = grind (arith, nat_tests)

both : (a b : Bool) → (a && b) ≡ true → (a ≡ true) × (b ≡ true)
both true b h = (refl, h)
both false b h = absurd (let no : ⊥ = cc in no)

pub is_real-yes : (m : Moment) → IsYear m.year → IsDate m.year (pos m.month) (pos m.day) → IsTime (pos m.hour) (pos m.minute) (pos m.second) (pos 0) → is_real m ≡ true
is_real-yes m low date time =
    let m1 : 1 ≤ m.month = omega (arith, signed_arith) in
    let m2 : m.month ≤ 12 = omega (arith, signed_arith) in
    let d1 : 1 ≤ m.day = omega (arith, signed_arith) in
    let d2 : m.day ≤ days_in_month m.year m.month = omega (arith, signed_arith, date.2.1) in
    let h : m.hour < 24 = omega (arith, signed_arith) in
    let n : m.minute < 60 = omega (arith, signed_arith) in
    let s : m.second < 60 = omega (arith, signed_arith) in
    rw (leb_yes _ _ m1, leb_yes _ _ m2, leb_yes _ _ d1, leb_yes _ _ d2, ltb_yes _ _ h, ltb_yes _ _ n, ltb_yes _ _ s) refl

seven : (a b c d e f g : Bool) → (a && b && c && d && e && f && g) ≡ true → (a ≡ true) × (b ≡ true) × (c ≡ true) × (d ≡ true) × (e ≡ true) × (f ≡ true) × (g ≡ true)
seven a b c d e f g h =
    let h6 = both (a && b && c && d && e && f) g h in
    let h5 = both (a && b && c && d && e) f h6.0 in
    let h4 = both (a && b && c && d) e h5.0 in
    let h3 = both (a && b && c) d h4.0 in
    let h2 = both (a && b) c h3.0 in
    let h1 = both a b h2.0 in
    (h1.0, h1.1, h2.1, h3.1, h4.1, h5.1, h6.1)

-- what the test says
pub is_real-tests : (m : Moment) → is_real m ≡ true
    → (1 ≤ m.month) × (m.month ≤ 12) × (1 ≤ m.day) × (m.day ≤ days_in_month m.year m.month) × (m.hour < 24) × (m.minute < 60) × (m.second < 60)
is_real-tests m real =
    let t = seven (leb 1 m.month) (leb m.month 12) (leb 1 m.day) (leb m.day (days_in_month m.year m.month)) (ltb m.hour 24) (ltb m.minute 60) (ltb m.second 60) real in
    (leb_is 1 m.month t.0, leb_is m.month 12 t.1, leb_is 1 m.day t.2, leb_is m.day (days_in_month m.year m.month) t.3, ltb_is m.hour 24 t.4, ltb_is m.minute 60 t.5, ltb_is m.second 60 t.6)

pub is_real-only : (m : Moment) → IsYear m.year → is_real m ≡ true → IsDate m.year (pos m.month) (pos m.day) × IsTime (pos m.hour) (pos m.minute) (pos m.second) (pos 0)
is_real-only m low real =
    let t = is_real-tests m real in
    let m1 = t.0 in
    let m2 = t.1 in
    let d1 = t.2 in
    let d2 = t.3 in
    let h = t.4 in
    let n = t.5 in
    let s = t.6 in (
      ((omega (arith, signed_arith), omega (arith, signed_arith)), (omega (arith, signed_arith), omega (arith, signed_arith)), (omega (arith, signed_arith), omega (arith, signed_arith))),
      ((omega (arith, signed_arith), omega (arith, signed_arith)), (omega (arith, signed_arith), omega (arith, signed_arith)), (omega (arith, signed_arith), omega (arith, signed_arith)), (omega (arith, signed_arith), omega (arith, signed_arith))),
    )

-- a moment is its parts
pub mapped_of : (m : Moment) (year : ℤ) (month day hour minute second nanosecond : ℕ) (offset : ℤ) → year ≡ m.year → month ≡ m.month → day ≡ m.day → hour ≡ m.hour → minute ≡ m.minute → second ≡ m.second → nanosecond ≡ m.nanosecond → offset ≡ m.offset
    → (let mapped : Moment = record { year = year; month = month; day = day; hour = hour; minute = minute; second = second; nanosecond = nanosecond; offset = offset } in mapped) ≡ m
mapped_of m year month day hour minute second nanosecond offset ey em ed eh en es ef eo = rw (ey, em, ed, eh, en, es, ef, eo) refl

-- a date-time with these parts says this moment
pub ok_moment : (t : OffsetDateTime) (m : Moment) → t.civil.date.year ≡ m.year → pos t.civil.date.month ≡ pos m.month → pos t.civil.date.day ≡ pos m.day
    → pos t.civil.time.hour ≡ pos m.hour → pos t.civil.time.minute ≡ pos m.minute → pos t.civil.time.second ≡ pos m.second → pos t.civil.time.subsec_nanosecond ≡ pos m.nanosecond → t.offset_minutes ≡ m.offset
    → is_real m ≡ true → Some (moment_of t) ≡ if_real m
ok_moment t m ey em ed eh en es ef eo is =
    let mo : t.civil.date.month ≡ m.month = cc in
    let d : t.civil.date.day ≡ m.day = cc in
    let h : t.civil.time.hour ≡ m.hour = cc in
    let n : t.civil.time.minute ≡ m.minute = cc in
    let s : t.civil.time.second ≡ m.second = cc in
    let f : t.civil.time.subsec_nanosecond ≡ m.nanosecond = cc in
    let same : moment_of t ≡ m = mapped_of m _ _ _ _ _ _ _ _ ey mo d h n s f eo in
    rw is (ap Some same)

pub no_moment : (m : Moment) → (is_real m ≡ true → ⊥) → None ≡ if_real m
no_moment m never = no_value (is_real m) never
  where
    no_value : (b : Bool) → (b ≡ true → ⊥) → None ≡ cond b (Some m) None
    no_value true h = absurd (h refl)
    no_value false h = refl
