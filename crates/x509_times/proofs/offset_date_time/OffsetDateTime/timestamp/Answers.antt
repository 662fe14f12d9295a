use Rattle.std.proofs.Common.{arith}
use Rattle.jiff_core.proofs.DateTimeLemmas.{civil_nanos-parts, civil_nanos-civil_seconds}
use Rattle.jiff_core.proofs.SignedLemmas.{signed_arith}
use Rattle.x509_times.proofs.Instants.{floor-instant}
use Rattle.x509_times.proofs.offset_date_time.OffsetDateTime.timestamp.Goals as goal

pub returns-clause-value : goal.returns-clause-value
returns-clause-value c =
    let in_day = c.args.self.now.in_day in
    let civil = c.to_second.ensures.value in
    rw floor-instant (omega (arith, signed_arith))

pub returns-clause-unix : goal.returns-clause-unix
returns-clause-unix c =
    let civil = c.to_second.ensures.value in
    let parts = civil_nanos-parts c.args.self.now.civil in
    let seconds = civil_nanos-civil_seconds c.args.self.now.civil in
    omega (arith, signed_arith)

pub returns-clause-range : goal.returns-clause-range
returns-clause-range c =
    let in_day = c.args.self.now.in_day in
    let bound = c.to_second.ensures.bound in
    (omega (arith, signed_arith), omega (arith, signed_arith))
