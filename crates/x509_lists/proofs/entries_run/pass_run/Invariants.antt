use Rattle.std.proofs.Common.{length}
use Rattle.x509_lists.proofs.Passing.{Passed}
use Rattle.x509_lists.proofs.entries_run.pass_run.Given as goal

abbrev pub invariant-loop-after : goal.invariant-loop-after
invariant-loop-after l = Passed l.i l.rest l.count l.plain l.fn.tries l.tries

abbrev pub decreases-loop-after : goal.decreases-loop-after
decreases-loop-after l = length l.rest
