-- The timestamps that are read are counted and shown.
use Rattle.std.proofs.Common.{List, length, map, ap, sym, subst, refl, true, ◌∙◌}
use Rattle.std.proofs.lemmas.List.{length-map}
use Rattle.x509_der.specs.declared.error.Located.{Located}
use Rattle.x509_fields.specs.declared.error.X509Error.{X509Error}
use Rattle.x509_values.specs.declared.timestamp.SignedCertificateTimestamp.{SignedCertificateTimestamp}
use Rattle.x509_values.specs.Timestamp.{timestamp_of}
use Rattle.x509_values.specs.TimestampList.{timestamps, timestamps_of}
use Rattle.x509_c.specs.Timestamps.{IsTimestampRow, ShowsTimestamps}
use Rattle.x509_c.specs.Rows.{RowsShow}
use Rattle.x509_c.specs.Status.{placed, status_of}
use Rattle.x509_c.proofs.Telling.{tells_read_lifted, tells_refused_lifted}
use Rattle.x509_c.proofs.timestamps.rtv_read_timestamps.Goals as goal

pub returns-in-Ok : goal.returns-in-Ok
returns-in-Ok c =
    let slice = c.as_slice-read.ensures in
    let shown : ShowsTimestamps c.put_rows.new.rows (length c.as_slice-read.result.now) (timestamps_of c.in-Ok.read) = record {
      count = ap (λ (xs : List SignedCertificateTimestamp). length xs) slice ∙ sym (length-map c.in-Ok.read.timestamps timestamp_of);
      rows = subst (λ (xs : List SignedCertificateTimestamp). RowsShow IsTimestampRow c.put_rows.new.rows (map timestamp_of xs)) slice c.put_rows.ensures;
    } in
    tells_read_lifted true _ timestamps c.args.value.now _ _ _ c.args.at.now c.in-Ok.ensures shown

pub returns-in-Err : goal.returns-in-Err
returns-in-Err c =
    tells_refused_lifted true _ timestamps c.args.value.now _ _ c.in-Err.refusal c.args.at.now _ _ c.in-Err.ensures (refl, refl)
    (c.refused.ensures.at ∙ ap (λ (e : Located X509Error). placed e c.args.at.now) c.lifted.ensures) (c.refused.ensures.status ∙ ap (λ (e : Located X509Error). status_of e.why) c.lifted.ensures)
