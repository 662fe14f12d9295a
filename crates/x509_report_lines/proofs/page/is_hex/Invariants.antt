use Rattle.std.proofs.Common.{◌≡◌, true, take}
use Rattle.std.specs.List.{list_all}
use Rattle.x509_report_lines.specs.Lines.{is_hex_digit}
use Rattle.x509_report_lines.proofs.page.is_hex.Given as goal

abbrev pub invariant-loop-octet : goal.invariant-loop-octet
invariant-loop-octet l = list_all is_hex_digit (take l.octet-index l.octets) ≡ true
