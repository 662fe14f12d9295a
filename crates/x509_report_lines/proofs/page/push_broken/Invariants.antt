use Rattle.std.proofs.Common.{◌≡◌, ◌++◌, drop, false}
use Rattle.x509_report_lines.specs.Lines.{broken}
use Rattle.x509_report_lines.proofs.page.push_broken.Given as goal

-- with the digits that are left
abbrev pub invariant-loop-n : goal.invariant-loop-n
invariant-loop-n l = l.text.stopped ≡ false → (l.initial.text.stopped ≡ false) × (l.text.so_far ++ broken l.depth l.n (drop l.n l.digits) ≡ l.initial.text.so_far ++ broken l.depth 0 l.digits)
