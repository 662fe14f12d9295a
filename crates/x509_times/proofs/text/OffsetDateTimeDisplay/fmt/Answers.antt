use Rattle.std.proofs.Common.{◌≡◌, arith, append_assoc, FitsSigned, w16}
use Rattle.std.proofs.lemmas.Int.{to_z-of_z}
use Rattle.jiff_core.proofs.SignedLemmas.{signed_arith}
use Rattle.x509_times.proofs.text.OffsetDateTimeDisplay.fmt.Goals as goal

pub returns-clause-writes : goal.returns-clause-writes
returns-clause-writes g c = λ p ok.
    let m : c.offset_minutes-minutes.result ≡ c.args.self.now.offset_minutes = c.offset_minutes-minutes.ensures.value in
    let d : c.civil-civil.result ≡ c.args.self.now.civil = c.civil-civil.ensures in
    let year_in = c.civil-civil.result.date.year_in in
    let year_fits : FitsSigned w16 c.civil-civil.result.date.year = omega (arith, signed_arith) in
    let in_day = c.offset_minutes-minutes.ensures.in_day in
    let minutes_fit : FitsSigned w16 c.offset_minutes-minutes.result = omega (arith, signed_arith) in
    let w = c.write.ensures.writes in
    rw (← m, ← d, ← c.name_of_month-month.ensures) (simp append_assoc (simp to_z-of_z at (w p ok)))
