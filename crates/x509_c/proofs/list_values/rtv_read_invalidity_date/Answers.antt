-- The seconds of the date that was read, or why there is none.
use Rattle.std.proofs.Common.{◌≡◌, refl, false, w64, to_z, of_z, rules}
use Rattle.x509_times.specs.Moments.{floor_seconds}
use Rattle.x509_fields.specs.Times.{instant_of}
use Rattle.x509_values.specs.InvalidityDate.{invalidity_date}
use Rattle.x509_c.proofs.Telling.{tells_read, tells_refused}
use Rattle.x509_c.proofs.list_values.rtv_read_invalidity_date.Goals as goal

pub returns-in-Ok : goal.returns-in-Ok
returns-in-Ok c =
    let date : to_z w64 (of_z w64 c.seconds.result) ≡ floor_seconds (instant_of c.in-Ok.read.0) = search rules in
    tells_read false _ invalidity_date c.args.value.now _ _ _ c.args.at.now c.in-Ok.ensures (c.in-Ok.read.0, refl, date)

pub returns-in-Err : goal.returns-in-Err
returns-in-Err c = tells_refused false _ invalidity_date c.args.value.now _ _ c.in-Err.refusal c.args.at.now _ _ c.in-Err.ensures refl c.refused.ensures.at c.refused.ensures.status
