use Rattle.std.proofs.Common.{◌≡◌, take}
use Rattle.std.specs.Prelude.{string_bytes}
use Rattle.x509_revoked_cli.specs.Reports.{report_text, any_revoked}
use Rattle.x509_revoked_cli.specs.Search.{found_in}
use Rattle.x509_revoked_cli.proofs.report.report_serials.Given as goal

-- the lines so far
abbrev pub invariant-loop-serial : goal.invariant-loop-serial
invariant-loop-serial l = record {
  text : string_bytes l.text ≡ report_text (found_in l.search) (take l.serial-index l.serials);
  revoked : l.is_any_revoked ≡ any_revoked (found_in l.search) (take l.serial-index l.serials);
}
