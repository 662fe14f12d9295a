-- The report of the certificate at the front of an input.
use Rattle.std.specs.Prelude.{ℕ, List, ◌++◌, true, false, length, flat_map, codes}
use Rattle.std.specs.Fmt.{decimal}
use Rattle.x509_der.specs.Hex.{hex_text}
use Rattle.x509_der.specs.Oid.{oid_text}
use Rattle.x509_names.specs.NameTexts.{shown_name}
use Rattle.x509_fields.specs.Times.{time_text}
use Rattle.x509_fields.specs.Version.{version_text}
use Rattle.x509_certs.specs.Certificate.{Certificate, certificate, certificate_by}
use Rattle.x509_show.specs.FrontReport.{IsFrontReport}
use Rattle.x509_show.specs.Lines.{line, extension_line}
use Rattle.x509_show.specs.Report.{Report}

-- The lines of a certificate, and of the bytes behind it. The signature's algorithm is the one outside the signed part.
unfoldable pub certificate_text : Certificate → List ℕ → List ℕ
certificate_text c rest =
    line (codes "version") (version_text c.tbs.version)
    ++ line (codes "serial") (hex_text (codes ":") c.tbs.raw_serial)
    ++ line (codes "signature") (oid_text c.signature_algorithm.algorithm)
    ++ line (codes "issuer") (shown_name c.tbs.issuer)
    ++ line (codes "not before") (time_text c.tbs.validity.not_before.moment)
    ++ line (codes "not after") (time_text c.tbs.validity.not_after.moment)
    ++ line (codes "subject") (shown_name c.tbs.subject)
    ++ line (codes "key") (oid_text c.tbs.subject_pki.algorithm.algorithm)
    ++ flat_map extension_line c.tbs.extensions
    ++ line (codes "tbs") (decimal (length c.tbs.raw))
    ++ line (codes "rest") (decimal (length rest))

-- the report of what the input is by the grammar of certificates; values of extensions are not looked at
abbrev pub IsCertificateReport : List ℕ → Report → Type 0
IsCertificateReport input report = IsFrontReport (certificate false) certificate_text input report

-- the same of certificates that stand plainly, with the values of their extensions, alone
abbrev pub IsStrictCertificateReport : List ℕ → Report → Type 0
IsStrictCertificateReport input report = IsFrontReport (certificate_by true true) certificate_text input report
