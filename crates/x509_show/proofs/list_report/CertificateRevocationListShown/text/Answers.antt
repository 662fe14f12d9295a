use Rattle.std.proofs.Common.{◌≡◌, ◌++◌, string_bytes, codes, flat_map, map, length, refl}
use Rattle.std.specs.Fmt.{decimal}
use Rattle.x509_der.specs.Oid.{oid_bytes, oid_text}
use Rattle.x509_der.specs.Promises.{option_view}
use Rattle.x509_names.specs.Names.{name_of}
use Rattle.x509_names.specs.NameTexts.{shown_name}
use Rattle.x509_fields.specs.Times.{time_of, time_text}
use Rattle.x509_fields.specs.Version.{version_text}
use Rattle.x509_extensions.specs.Extension.{extension_of}
use Rattle.x509_lists.specs.RevokedCertificate.{revoked_of}
use Rattle.x509_show.specs.Lines.{line, extension_line}
use Rattle.x509_show.specs.ListReport.{list_text, or_none, revoked_line}
use Rattle.x509_show.proofs.Reports.{optional_line}
use Rattle.x509_show.proofs.list_report.CertificateRevocationListShown.text.Goals as goal

pub returns : goal.returns
unfolding list_text
returns c =
    let tbs = c.args.self.now.tbs_cert_list in
    let version : string_bytes c.push_optional.new.text ≡ string_bytes c.new-text.result ++ line (codes "version") (or_none version_text (option_view (λ v. v.0) tbs.version)) =
    optional_line (λ v. v.0) version_text (codes "version") _ _ tbs.version c.in_ok-push_optional.ensures in
    let signature : string_bytes c.push_line.new.text ≡ string_bytes c.push_optional.new.text ++ line (codes "signature") (oid_text (oid_bytes c.args.self.now.signature_algorithm.algorithm)) = c.in_ok-push_line.ensures in
    let issuer : string_bytes c.push_line-2.new.text ≡ string_bytes c.push_line.new.text ++ line (codes "issuer") (shown_name (name_of tbs.issuer)) = c.in_ok-push_line-2.ensures in
    let this_update : string_bytes c.push_line-3.new.text ≡ string_bytes c.push_line-2.new.text ++ line (codes "this update") (time_text (time_of tbs.this_update).moment) = c.in_ok-push_line-3.ensures in
    let next_update : string_bytes c.push_optional-2.new.text ≡ string_bytes c.push_line-3.new.text ++ line (codes "next update") (or_none (λ t. time_text t.moment) (option_view time_of tbs.next_update)) =
    optional_line time_of (λ t. time_text t.moment) (codes "next update") _ _ tbs.next_update c.in_ok-push_optional-2.ensures in
    let revoked : string_bytes c.push_all_revoked.new.text ≡ string_bytes c.push_optional-2.new.text ++ flat_map revoked_line (map revoked_of c.as_slice.result.now) = c.in_ok-push_all_revoked.ensures in
    let extensions : string_bytes c.push_extensions.new.text ≡ string_bytes c.push_all_revoked.new.text ++ flat_map extension_line (map extension_of c.extensions.result.now) = c.in_ok-push_extensions.ensures in
    let signed : string_bytes c.push_line-4.new.text ≡ string_bytes c.push_extensions.new.text ++ line (codes "tbs") (decimal (length c.as_ref.result.now)) = c.in_ok-push_line-4.ensures in
    let rest : string_bytes c.push_line-5.new.text ≡ string_bytes c.push_line-4.new.text ++ line (codes "rest") (decimal (length c.args.rest.now)) = c.in_ok-push_line-5.ensures in
    rw (rest, signed, extensions, revoked, next_update, this_update, issuer, signature, version, c.new-text.ensures.bytes, c.as_slice.ensures, c.extensions.ensures, c.as_ref.ensures) refl
