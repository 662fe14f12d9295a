-- Each field is the value's.
use Rattle.std.proofs.Common.{◌≡◌, List, refl, length, ap, sym, ◌∙◌, w64, to_z, of_z, rules}
use Rattle.std.proofs.lemmas.List.{length-map}
use Rattle.x509_extensions.specs.Extension.{extension_of}
use Rattle.x509_extensions.specs.declared.extension.X509Extension.{X509Extension}
use Rattle.x509_lists.specs.RevokedCertificate.{revoked_of}
use Rattle.x509_lists.specs.declared.revoked_certificate.RevokedCertificate.{RevokedCertificate}
use Rattle.x509_times.specs.Moments.{floor_seconds}
use Rattle.x509_fields.specs.Times.{instant_of}
use Rattle.x509_c.proofs.lists.list_row.Goals as goal

pub returns : goal.returns
returns c =
    let this : to_z w64 (of_z w64 c.seconds.result) ≡ floor_seconds (instant_of c.args.list.now.tbs_cert_list.this_update) = search rules in
    record {
      whole = c.as_raw.ensures;
      rest = refl;
      signed_part = c.as_ref.ensures;
      issuer = c.as_raw-2.ensures;
      signed_algorithm = c.as_bytes.ensures;
      signature_algorithm = c.as_bytes-2.ensures;
      signature = refl;
      this_update = (c.args.list.now.tbs_cert_list.this_update, refl, this);
      next_update = search rules;
      revoked_count = ap (λ (xs : List RevokedCertificate). length xs) c.as_slice.ensures ∙ sym (length-map c.args.list.now.tbs_cert_list.revoked_certificates revoked_of);
      extension_count = ap (λ (xs : List X509Extension). length xs) c.extensions.ensures ∙ sym (length-map c.args.list.now.tbs_cert_list.extensions extension_of);
      has_next_update = c.has_next_update.ensures;
      version = c.version.ensures;
      has_version = c.has_version.ensures;
    }
