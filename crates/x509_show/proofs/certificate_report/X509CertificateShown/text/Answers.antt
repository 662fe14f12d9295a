use Rattle.std.proofs.Common.{◌≡◌, ◌++◌, string_bytes, codes, flat_map, map, length, refl}
use Rattle.std.specs.Fmt.{decimal}
use Rattle.x509_der.specs.Oid.{oid_bytes, oid_text}
use Rattle.x509_names.specs.Names.{name_of}
use Rattle.x509_names.specs.NameTexts.{shown_name}
use Rattle.x509_fields.specs.Times.{time_of, time_text}
use Rattle.x509_fields.specs.Version.{version_text}
use Rattle.x509_extensions.specs.Extension.{extension_of}
use Rattle.x509_show.specs.CertificateReport.{certificate_text}
use Rattle.x509_show.specs.Lines.{line, extension_line}
use Rattle.x509_show.proofs.certificate_report.X509CertificateShown.text.Goals as goal

pub returns : goal.returns
unfolding certificate_text
returns c =
    let tbs = c.args.self.now.tbs_certificate in
    let version : string_bytes c.push_line.new.text ≡ line (codes "version") (version_text tbs.version.0) = rw c.new-text.ensures.bytes at c.in_ok-push_line.ensures in
    let serial : string_bytes c.push_line-2.new.text ≡ string_bytes c.push_line.new.text ++ line (codes "serial") (string_bytes c.in-Ok.serial) = c.in_ok-push_line-2.ensures in
    let signature : string_bytes c.push_line-3.new.text ≡ string_bytes c.push_line-2.new.text ++ line (codes "signature") (oid_text (oid_bytes c.args.self.now.signature_algorithm.algorithm)) = c.in_ok-push_line-3.ensures in
    let issuer : string_bytes c.push_line-4.new.text ≡ string_bytes c.push_line-3.new.text ++ line (codes "issuer") (shown_name (name_of tbs.issuer)) = c.in_ok-push_line-4.ensures in
    let not_before : string_bytes c.push_line-5.new.text ≡ string_bytes c.push_line-4.new.text ++ line (codes "not before") (time_text (time_of tbs.validity.not_before).moment) = c.in_ok-push_line-5.ensures in
    let not_after : string_bytes c.push_line-6.new.text ≡ string_bytes c.push_line-5.new.text ++ line (codes "not after") (time_text (time_of tbs.validity.not_after).moment) = c.in_ok-push_line-6.ensures in
    let subject : string_bytes c.push_line-7.new.text ≡ string_bytes c.push_line-6.new.text ++ line (codes "subject") (shown_name (name_of tbs.subject)) = c.in_ok-push_line-7.ensures in
    let key : string_bytes c.push_line-8.new.text ≡ string_bytes c.push_line-7.new.text ++ line (codes "key") (oid_text (oid_bytes tbs.subject_pki.algorithm.algorithm)) = c.in_ok-push_line-8.ensures in
    let extensions : string_bytes c.push_extensions.new.text ≡ string_bytes c.push_line-8.new.text ++ flat_map extension_line (map extension_of c.extensions.result.now) = c.in_ok-push_extensions.ensures in
    let signed : string_bytes c.push_line-9.new.text ≡ string_bytes c.push_extensions.new.text ++ line (codes "tbs") (decimal (length c.as_ref.result.now)) = c.in_ok-push_line-9.ensures in
    let rest : string_bytes c.push_line-10.new.text ≡ string_bytes c.push_line-9.new.text ++ line (codes "rest") (decimal (length c.args.rest.now)) = c.in_ok-push_line-10.ensures in
    rw (rest, signed, extensions, key, subject, not_after, not_before, issuer, signature, serial, version, c.in-Ok.ensures, c.extensions.ensures, c.as_ref.ensures) refl
