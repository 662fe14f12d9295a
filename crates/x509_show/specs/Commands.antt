-- The words of a command line, and what the program is to write for them.
use Rattle.std.specs.Prelude.{◌≡◌, ℕ, List, codes, ◌⊎◌}
use Rattle.x509_show.specs.declared.commands.Command.{Command}
use Rattle.x509_show.specs.declared.commands.Command.TheVariants as commands
use Rattle.x509_show.specs.Report.{Report}
use Rattle.x509_show.specs.ElementReport.{IsElementReport}
use Rattle.x509_show.specs.CertificateReport.{IsCertificateReport, IsStrictCertificateReport}
use Rattle.x509_show.specs.ListReport.{IsListReport, IsStrictListReport}
use Rattle.x509_show.specs.RequestReport.{IsRequestReport, IsStrictRequestReport}

abbrev pub usage_report : Report
usage_report = record { text = codes "usage: x509_show der|cert|crl|csr|cert-strict|crl-strict|csr-strict\n"; status = 2 }

-- the words that have a report of an input
abbrev pub IsCommand : List ℕ → Type 0
IsCommand command =
    (command ≡ codes "der") ⊎ (command ≡ codes "cert") ⊎ (command ≡ codes "crl") ⊎ (command ≡ codes "csr")
    ⊎ (command ≡ codes "cert-strict") ⊎ (command ≡ codes "crl-strict") ⊎ (command ≡ codes "csr-strict")

-- The report of an input under a command, or under any other words.
pub record IsReport (command input : List ℕ) (report : Report) : Type 0 where
  pub der : command ≡ codes "der" → IsElementReport input report
  pub cert : command ≡ codes "cert" → IsCertificateReport input report
  pub crl : command ≡ codes "crl" → IsListReport input report
  pub csr : command ≡ codes "csr" → IsRequestReport input report
  pub cert_strict : command ≡ codes "cert-strict" → IsStrictCertificateReport input report
  pub crl_strict : command ≡ codes "crl-strict" → IsStrictListReport input report
  pub csr_strict : command ≡ codes "csr-strict" → IsStrictRequestReport input report
  pub other : ¬ IsCommand command → report ≡ usage_report

abbrev pub command_word : Command → List ℕ
command_word commands.Der = codes "der"
command_word commands.Cert = codes "cert"
command_word commands.Crl = codes "crl"
command_word commands.Csr = codes "csr"
command_word commands.CertStrict = codes "cert-strict"
command_word commands.CrlStrict = codes "crl-strict"
command_word commands.CsrStrict = codes "csr-strict"
