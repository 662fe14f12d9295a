-- What is said of all serials that are asked for.
use Rattle.std.specs.Prelude.{◌≡◌, ℕ, List, Bool, Option, cond, flat_map, string_bytes}
use Rattle.std.specs.List.{list_any}
use Rattle.x509_lists.specs.RevokedCertificate.{Revoked}
use Rattle.x509_revoked_cli.specs.Answers.{answer_line, is_revoked}
use Rattle.x509_revoked_cli.specs.Serials.{number_of}
use Rattle.x509_revoked_cli.specs.declared.report.Report.{Report}
use Rattle.x509_revoked_cli.specs.declared.serials.Serial.{Serial}

-- a line each, in order, where the entry of a number is found so
abbrev pub report_text : (ℕ → Option Revoked) → List Serial → List ℕ
report_text entry_of serials = flat_map (λ s. answer_line s.word.now (entry_of (number_of s))) serials

abbrev pub any_revoked : (ℕ → Option Revoked) → List Serial → Bool
any_revoked entry_of serials = list_any (λ s. is_revoked (entry_of (number_of s))) serials

pub record IsReport (entry_of : ℕ → Option Revoked) (serials : List Serial) (report : Report) : Type 0 where
  pub text : string_bytes report.text ≡ report_text entry_of serials
  pub revoked : report.is_any_revoked ≡ any_revoked entry_of serials

-- the status of a run that writes it: 1 where a certificate is revoked, else 0
abbrev pub status_of : Report → ℕ
status_of report = cond report.is_any_revoked 1 0
