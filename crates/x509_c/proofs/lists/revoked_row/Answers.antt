-- Each field is the entry's.
use Rattle.std.proofs.Common.{◌≡◌, List, refl, length, ap, sym, ◌∙◌, w64, to_z, of_z, rules}
use Rattle.std.proofs.lemmas.List.{length-map}
use Rattle.x509_extensions.specs.Extension.{extension_of}
use Rattle.x509_extensions.specs.declared.extension.X509Extension.{X509Extension}
use Rattle.x509_times.specs.Moments.{floor_seconds}
use Rattle.x509_fields.specs.Times.{instant_of}
use Rattle.x509_c.specs.Options.{is_there, there_or}
use Rattle.x509_c.proofs.lists.revoked_row.Goals as goal

pub returns : goal.returns
returns c =
    let date : to_z w64 (of_z w64 c.seconds.result) ≡ floor_seconds (instant_of c.args.revoked.now.revocation_date) = search rules in
    record {
      serial = c.raw_serial.ensures;
      revocation_date = (c.args.revoked.now.revocation_date, refl, date);
      extension_count = ap (λ (xs : List X509Extension). length xs) c.extensions.ensures ∙ sym (length-map c.args.revoked.now.extensions extension_of);
      reason = c.or_zero.ensures ∙ ap (there_or 0) c.reason-reason.ensures;
      has_reason = c.is_some.ensures ∙ ap is_there c.reason-reason.ensures;
    }
