use Rattle.std.proofs.Common.{◌≡◌, ◌++◌, take}
use Rattle.x509_report_lines.specs.Blocks.{symbols_of}
use Rattle.x509_report_lines.proofs.blocks.push_symbols.Given as goal

abbrev pub invariant-loop-octet : goal.invariant-loop-octet
invariant-loop-octet l = l.symbols.items ≡ l.initial.symbols.items ++ symbols_of (take l.octet-index l.line)
