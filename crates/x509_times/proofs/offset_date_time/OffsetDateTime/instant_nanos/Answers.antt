use Rattle.std.proofs.Common.{arith}
use Rattle.jiff_core.proofs.SignedLemmas.{signed_arith}
use Rattle.x509_times.proofs.offset_date_time.OffsetDateTime.instant_nanos.Goals as goal

pub returns : goal.returns
returns c =
    let in_day = c.args.self.now.in_day in
    let civil = c.to_nanosecond.ensures.value in
    omega (arith, signed_arith)
