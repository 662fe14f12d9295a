-- The report of the certification request at the front of an input.
use Rattle.std.specs.Prelude.{ℕ, List, ◌++◌, length, flat_map, codes}
use Rattle.std.specs.Fmt.{decimal}
use Rattle.x509_der.specs.Oid.{oid_text}
use Rattle.x509_names.specs.NameTexts.{shown_name}
use Rattle.x509_fields.specs.Version.{version_text}
use Rattle.x509_requests.specs.CriAttribute.{Attribute}
use Rattle.x509_requests.specs.Request.{certification_request, plain_request}
use Rattle.x509_requests.specs.RequestInfo.{RequestInfo}
use Rattle.x509_fields.specs.Signed.{Signed}
use Rattle.x509_show.specs.FrontReport.{IsFrontReport}
use Rattle.x509_show.specs.Lines.{line}
use Rattle.x509_show.specs.Report.{Report}

-- the identifier, and the length of the SET of its values
abbrev pub attribute_line : Attribute → List ℕ
attribute_line a = line (codes "attribute") (oid_text a.oid ++ codes " " ++ decimal (length a.value))

-- The lines of a request, and of the bytes behind it. The signature's algorithm is the one outside the signed part.
unfoldable pub request_text : Signed RequestInfo → List ℕ → List ℕ
request_text c rest =
    line (codes "version") (version_text c.tbs.version)
    ++ line (codes "subject") (shown_name c.tbs.subject)
    ++ line (codes "key") (oid_text c.tbs.subject_pki.algorithm.algorithm)
    ++ line (codes "signature") (oid_text c.signature_algorithm.algorithm)
    ++ flat_map attribute_line c.tbs.attributes
    ++ line (codes "tbs") (decimal (length c.tbs.raw))
    ++ line (codes "rest") (decimal (length rest))

-- the report of what the input is by the grammar of requests
abbrev pub IsRequestReport : List ℕ → Report → Type 0
IsRequestReport input report = IsFrontReport certification_request request_text input report

-- the same of requests that stand plainly, alone
abbrev pub IsStrictRequestReport : List ℕ → Report → Type 0
IsStrictRequestReport input report = IsFrontReport plain_request request_text input report
