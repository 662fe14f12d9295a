use Rattle.std.proofs.Common.{◌≡◌, arith, append_assoc, FitsSigned, w16}
use Rattle.std.specs.Prelude.{unsigned_abs}
use Rattle.std.proofs.lemmas.Int.{to_z-of_z}
use Rattle.jiff_core.proofs.SignedLemmas.{signed_arith}
use Rattle.x509_times.proofs.text.rfc3339.Rfc3339Display.fmt.Goals as goal

pub returns-clause-writes : goal.returns-clause-writes
returns-clause-writes g c = λ p ok.
    let m : c.offset_minutes-minutes.result ≡ c.args.self.now.time.offset_minutes = c.offset_minutes-minutes.ensures.value in
    let d : c.civil-civil.result ≡ c.args.self.now.time.civil = c.civil-civil.ensures in
    let year_in = c.civil-civil.result.date.year_in in
    let year_fits : FitsSigned w16 c.civil-civil.result.date.year = omega (arith, signed_arith) in
    let y : c.unsigned_abs.result ≡ unsigned_abs c.civil-civil.result.date.year = simp to_z-of_z at c.unsigned_abs.ensures.value in
    let in_day = c.offset_minutes-minutes.ensures.in_day in
    let minutes_fit : FitsSigned w16 c.offset_minutes-minutes.result = omega (arith, signed_arith) in
    let w = c.write.ensures.writes in
    rw (← m, ← d, ← y) (simp append_assoc (simp to_z-of_z at (w p ok)))
