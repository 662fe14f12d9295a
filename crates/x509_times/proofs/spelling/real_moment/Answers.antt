use Rattle.std.proofs.Common.{ℕ, ℤ, pos, refl, ap, ◌∙◌, w8, w16, arith}
use Rattle.std.proofs.lemmas.Int.{to_z_pos, to_z-of_z}
use Rattle.jiff_core.proofs.SignedLemmas.{signed_arith}
use Rattle.jiff_core.specs.declared.civil.date.Date.{Date}
use Rattle.jiff_core.specs.declared.civil.datetime.DateTime.{DateTime}
use Rattle.jiff_core.specs.declared.civil.time.Time.{Time}
use Rattle.x509_times.specs.Moments.{Moment}
use Rattle.x509_times.proofs.RealDates.{is_real-yes, is_real-only, ok_moment, no_moment}
use Rattle.x509_times.proofs.spelling.real_moment.Goals as goal

-- the moment that the numbers say
abbrev said : (year month day hour minute second : ℕ) → ℤ → Moment
said year month day hour minute second offset = record { year = pos year; month = month; day = day; hour = hour; minute = minute; second = second; nanosecond = 0; offset = offset }

pub returns-in-Ok-new : goal.returns-in-Ok-new
returns-in-Ok-new c =
    let m = said c.args.year c.args.month c.args.day c.args.hour c.args.minute c.args.second c.args.offset in
    let y = to_z_pos w16 c.args.year (omega arith) in
    let mo = to_z_pos w8 c.args.month (omega arith) in
    let d = to_z_pos w8 c.args.day (omega arith) in
    let h = to_z_pos w8 c.args.hour (omega arith) in
    let n = to_z_pos w8 c.args.minute (omega arith) in
    let s = to_z_pos w8 c.args.second (omega arith) in
    let is_date = rw (y, mo, d) at (c.in-Ok.ensures.succeeds.0 refl) in
    let is_time = rw (h, n, s) at (c.in-Ok-new.ensures.succeeds.0 refl) in
    let date = c.in-Ok.ensures.value in
    let time = c.in-Ok-new.ensures.value in
    let e = c.at.ensures.civil in
    let on = ap (λ (x : DateTime). x.date) e in
    let at = ap (λ (x : DateTime). x.time) e in
    ok_moment c.at.result m (ap (λ (x : Date). x.year) on ∙ (date.0 ∙ y)) (ap (λ (x : Date). pos x.month) on ∙ (date.1 ∙ mo)) (ap (λ (x : Date). pos x.day) on ∙ (date.2 ∙ d))
    (ap (λ (x : Time). pos x.hour) at ∙ (time.0 ∙ h)) (ap (λ (x : Time). pos x.minute) at ∙ (time.1 ∙ n)) (ap (λ (x : Time). pos x.second) at ∙ (time.2 ∙ s)) (ap (λ (x : Time). pos x.subsec_nanosecond) at ∙ time.3)
    (c.at.ensures.offset ∙ to_z-of_z w16 c.args.offset c.ranges.offset) (is_real-yes m is_date.0 is_date is_time)

pub returns-in-Err : goal.returns-in-Err
returns-in-Err c =
    let m = said c.args.year c.args.month c.args.day c.args.hour c.args.minute c.args.second c.args.offset in
    let y = to_z_pos w16 c.args.year (omega arith) in
    let mo = to_z_pos w8 c.args.month (omega arith) in
    let d = to_z_pos w8 c.args.day (omega arith) in
    let only = rw (y, mo, d) at c.in-Err.ensures.succeeds.1 in
    no_moment m (λ real. let is = is_real-only m (omega (arith, signed_arith), omega (arith, signed_arith)) real in let wrong = only is.0 in cc)

pub returns-in-Err-new : goal.returns-in-Err-new
returns-in-Err-new c =
    let m = said c.args.year c.args.month c.args.day c.args.hour c.args.minute c.args.second c.args.offset in
    let h = to_z_pos w8 c.args.hour (omega arith) in
    let n = to_z_pos w8 c.args.minute (omega arith) in
    let s = to_z_pos w8 c.args.second (omega arith) in
    let only = rw (h, n, s) at c.in-Err-new.ensures.succeeds.1 in
    no_moment m (λ real. let is = is_real-only m (omega (arith, signed_arith), omega (arith, signed_arith)) real in let wrong = only is.1 in cc)
