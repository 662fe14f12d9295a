-- What a run writes of the list that it read, and its status.
use Rattle.std.specs.Prelude.{◌≡◌, ◌⊎◌, ℕ, List, Option}
use Rattle.x509_der.specs.Promises.{IsFront}
use Rattle.x509_fields.specs.Signed.{Signed}
use Rattle.x509_lists.specs.CertificateList.{certificate_list}
use Rattle.x509_lists.specs.TbsCertList.{TbsList}
use Rattle.x509_revoked_cli.specs.Reports.{IsReport, status_of}
use Rattle.x509_revoked_cli.specs.Search.{LooksThrough, found_in}
use Rattle.x509_revoked_cli.specs.declared.report.Report.{Report}
use Rattle.x509_revoked_cli.specs.declared.search.Search.{Search}
use Rattle.x509_revoked_cli.specs.declared.serials.Serial.{Serial}

-- a list stands at the front of the input, and the report is of its entries
pub record IsReportOf (input : List ℕ) (issuer : Option (List ℕ)) (serials : List Serial) (report : Report) : Type 0 where
  pub list : Signed TbsList
  pub rest : List ℕ
  pub front : IsFront certificate_list input list rest
  pub search : Search
  pub looks : LooksThrough list.tbs issuer search
  pub reports : IsReport (found_in search) serials report

-- ---- statuses

-- it stopped before it had an answer
abbrev pub Stopped : ℕ → Type 0
Stopped status = status ≡ 3

-- the command line has other words, or it stopped
abbrev pub Unanswered : ℕ → Type 0
Unanswered status = (status ≡ 2) ⊎ Stopped status

-- that of the report of the list in this input for these serials
pub record Answered (issuer : Option (List ℕ)) (input : List ℕ) (serials : List Serial) (status : ℕ) : Type 0 where
  pub report : Report
  pub reports : IsReportOf input issuer serials report
  pub tells : status ≡ status_of report
