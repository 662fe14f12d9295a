use Rattle.std.proofs.Common.{arith}
use Rattle.jiff_core.proofs.SignedLemmas.{signed_arith}
use Rattle.x509_times.proofs.Instants.{instant_range}
use Rattle.x509_times.proofs.offset_date_time.OffsetDateTime.duration_since.Goals as goal

pub overflow_sub-instant_nanos : goal.overflow_sub-instant_nanos
overflow_sub-instant_nanos c =
    let mine = instant_range c.args.self.now.civil c.args.self.now.offset_minutes c.args.self.now.in_day in
    let others = instant_range c.args.other.now.civil c.args.other.now.offset_minutes c.args.other.now.in_day in
    let a = c.instant_nanos.ensures in
    let b = c.instant_nanos-2.ensures in
    omega (arith, signed_arith)

pub from_nanos_i128-requires : goal.from_nanos_i128-requires
from_nanos_i128-requires c =
    let mine = instant_range c.args.self.now.civil c.args.self.now.offset_minutes c.args.self.now.in_day in
    let others = instant_range c.args.other.now.civil c.args.other.now.offset_minutes c.args.other.now.in_day in
    let a = c.instant_nanos.ensures in
    let b = c.instant_nanos-2.ensures in
    (omega (arith, signed_arith), omega (arith, signed_arith))

pub returns : goal.returns
returns c =
    let mine = instant_range c.args.self.now.civil c.args.self.now.offset_minutes c.args.self.now.in_day in
    let others = instant_range c.args.other.now.civil c.args.other.now.offset_minutes c.args.other.now.in_day in
    let a = c.instant_nanos.ensures in
    let b = c.instant_nanos-2.ensures in
    omega (arith, signed_arith)
