use Rattle.std.proofs.Common.{◌≡◌, length}
use Rattle.x509_der.specs.Reading.{high_number_after}
use Rattle.x509_der.proofs.look.base_128.Given as goal

abbrev pub invariant-loop-rest : goal.invariant-loop-rest
invariant-loop-rest l = high_number_after l.number l.rest ≡ high_number_after 0 l.i

abbrev pub decreases-loop-rest : goal.decreases-loop-rest
decreases-loop-rest l = length l.rest
