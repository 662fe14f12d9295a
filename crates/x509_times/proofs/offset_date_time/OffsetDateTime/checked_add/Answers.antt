use Rattle.std.proofs.Common.{refl, arith}
use Rattle.jiff_core.proofs.SignedLemmas.{signed_arith}
use Rattle.jiff_core.proofs.DateTimeLemmas.{civil_nanos_range}
use Rattle.x509_times.proofs.offset_date_time.OffsetDateTime.checked_add.Goals as goal

pub returns-in-Ok-clause-some : goal.returns-in-Ok-clause-some
returns-in-Ok-clause-some c =
    let nanos = c.as_nanos.ensures.value in
    let sum = c.in-Ok.ensures.value in
    (λ _. (c.in-Ok.sum, c.in-Ok.sum.date.year_in, omega (arith, signed_arith)), λ _. refl)

pub returns-in-Ok-clause-instant : goal.returns-in-Ok-clause-instant
returns-in-Ok-clause-instant c =
    let nanos = c.as_nanos.ensures.value in
    let in_day = c.args.self.now.in_day in
    let sum = c.in-Ok.ensures.value in
    rw (c.at.ensures.civil, c.at.ensures.offset) (omega (arith, signed_arith))

pub returns-in-Err-clause-some : goal.returns-in-Err-clause-some
returns-in-Err-clause-some c =
    let nanos = c.as_nanos.ensures.value in
    let only = c.in-Err.ensures.succeeds.1 in
    (λ no. absurd (let never : ⊥ = cc in never), λ is. let range = rw is.2 at (civil_nanos_range is.0) in only (omega (arith, signed_arith), omega (arith, signed_arith)))
