use Rattle.std.proofs.Common.{arith}
use Rattle.std.proofs.Output.{has_written_of_eq}
use Rattle.x509_der.proofs.Decimals.{decimal_of_two}
use Rattle.x509_der.proofs.decimal.write_decimal.Goals as goal

pub returns-else-high-eq0 : goal.returns-else-high-eq0
returns-else-high-eq0 g c p ok =
    let two = c.in_two_digits-high.ensures in
    let wrote = rw c.laid_out.ensures at (c.write-else-high-eq0.ensures.writes p ok) in
    has_written_of_eq _ _ _ _ _ (decimal_of_two c.in_two_digits-high.result.0 c.in_two_digits-high.result.1 _ (omega arith) two.small two.low two.value) wrote
