-- The report of the list of revoked certificates at the front of an input.
use Rattle.std.specs.Prelude.{ℕ, List, ◌++◌, Option, Some, None, length, flat_map, codes}
use Rattle.std.specs.Fmt.{decimal}
use Rattle.x509_der.specs.Hex.{hex_text}
use Rattle.x509_der.specs.Oid.{oid_text}
use Rattle.x509_names.specs.NameTexts.{shown_name}
use Rattle.x509_fields.specs.Times.{time_text}
use Rattle.x509_fields.specs.Version.{version_text}
use Rattle.x509_lists.specs.CertificateList.{certificate_list, plain_list}
use Rattle.x509_lists.specs.RevokedCertificate.{Revoked}
use Rattle.x509_lists.specs.TbsCertList.{TbsList}
use Rattle.x509_fields.specs.Signed.{Signed}
use Rattle.x509_show.specs.FrontReport.{IsFrontReport}
use Rattle.x509_show.specs.Lines.{line, extension_line}
use Rattle.x509_show.specs.Report.{Report}

-- what is shown of a field that may be absent
abbrev pub or_none : {A : Type 0} → (A → List ℕ) → Option A → List ℕ
or_none text (Some a) = text a
or_none text None = codes "none"

-- the serial and when the certificate was revoked
abbrev pub revoked_line : Revoked → List ℕ
revoked_line r = line (codes "revoked") (hex_text (codes ":") r.raw_serial ++ codes " " ++ time_text r.revocation_date.moment)

-- The lines of a list, and of the bytes behind it. The signature's algorithm is the one outside the signed part.
unfoldable pub list_text : Signed TbsList → List ℕ → List ℕ
list_text c rest =
    line (codes "version") (or_none version_text c.tbs.version)
    ++ line (codes "signature") (oid_text c.signature_algorithm.algorithm)
    ++ line (codes "issuer") (shown_name c.tbs.issuer)
    ++ line (codes "this update") (time_text c.tbs.this_update.moment)
    ++ line (codes "next update") (or_none (λ t. time_text t.moment) c.tbs.next_update)
    ++ flat_map revoked_line c.tbs.revoked_certificates
    ++ flat_map extension_line c.tbs.extensions
    ++ line (codes "tbs") (decimal (length c.tbs.raw))
    ++ line (codes "rest") (decimal (length rest))

-- the report of what the input is by the grammar of lists
abbrev pub IsListReport : List ℕ → Report → Type 0
IsListReport input report = IsFrontReport certificate_list list_text input report

-- the same of lists that stand plainly, alone
abbrev pub IsStrictListReport : List ℕ → Report → Type 0
IsStrictListReport input report = IsFrontReport plain_list list_text input report
