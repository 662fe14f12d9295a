-- Instants: their whole seconds, and their range.
use Rattle.std.proofs.Common.{◌≡◌, ℤ, pos, ◌-ℤ◌, ◌*ℤ◌, neg_ℤ, arith}
use Rattle.jiff_core.proofs.SignedLemmas.{signed_arith}
use Rattle.jiff_core.proofs.DateTimeLemmas.{civil_nanos-civil_seconds, civil_nanos_range}
use Rattle.jiff_core.specs.declared.civil.datetime.DateTime.{DateTime}
use Rattle.jiff_core.specs.DateTime.{civil_seconds}
use Rattle.jiff_core.specs.Calendar.{IsBetween}
use Rattle.x509_times.specs.Moments.{IsOffset, instant, floor_seconds}

pub floor-instant : (civil : DateTime) (offset : ℤ) → floor_seconds (instant civil offset) ≡ (civil_seconds civil -ℤ (offset *ℤ pos 60))
floor-instant civil offset =
    let below = civil.time.subsec_in in
    let parts = civil_nanos-civil_seconds civil in
    omega (arith, signed_arith)

-- less than twice the years that a date has
pub instant_range : (civil : DateTime) (offset : ℤ) → IsOffset offset → IsBetween (neg_ℤ (pos 400_000_000_000_000_000_000)) (pos 400_000_000_000_000_000_000) (instant civil offset)
instant_range civil offset in_day =
    let low = (civil_nanos_range civil).0 in
    let high = (civil_nanos_range civil).1 in
    (omega (arith, signed_arith), omega (arith, signed_arith))
