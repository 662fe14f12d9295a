use Rattle.std.proofs.Common.{◌∙◌, ap}
use Rattle.x509_times.specs.Moments.{instant}
use Rattle.x509_times.specs.declared.offset_date_time.OffsetDateTime.{OffsetDateTime}
use Rattle.x509_fields.specs.Times.{civil_of, offset_of}
use Rattle.x509_fields.proofs.time.arithmetic.ASN1TimeAddSignedDuration.add.Goals as goal

pub returns-in_err-sum : goal.returns-in_err-sum
returns-in_err-sum c =
    let some = rw c.to_datetime.ensures at c.in_err-sum.ensures.some in
    rw c.from_residual.ensures (some, tt)

pub returns : goal.returns
returns c =
    let some = rw c.to_datetime.ensures at c.in_ok-sum.ensures.some in
    let moved = rw c.to_datetime.ensures at c.in_ok-sum.ensures.instant in
    let kept = rw c.to_datetime.ensures at c.in_ok-sum.ensures.offset in
    let same = ap (λ (t : OffsetDateTime). instant (civil_of t) (offset_of t)) c.new.ensures.time in
    (some, (same ∙ moved, ap offset_of c.new.ensures.time ∙ kept, rw c.new.ensures.time c.new.ensures.form))
