use Rattle.std.proofs.Common.{◌≡◌, take, map}
use Rattle.std.specs.Prelude.{fold}
use Rattle.x509_report_lines.specs.Blocks.{step, start}
use Rattle.x509_report_lines.proofs.blocks.find_blocks.Given as goal

abbrev pub invariant-loop-line : goal.invariant-loop-line
invariant-loop-line l = l.blocks ≡ fold step start (map (λ s. s.now) (take l.line-index l.line-items))
