use Rattle.std.proofs.Common.{◌+◌, ◌*◌, arith}
use Rattle.x509_keys.proofs.Numbers.{one_more, at_most_8}
use Rattle.x509_keys.proofs.rsa_public_key.number_of.Goals as goal

pub overflow_mul-number : goal.overflow_mul-number
overflow_mul-number c =
    let i = c.loop-octet.octet-index in
    let n = c.loop-octet.number in
    omega (arith, at_most_8 (i + 1) (n * 256 + 0) (omega (arith, c.requires, c.loop-octet-test.true)) (one_more i n 0 c.loop-octet.invariant.small (omega arith)))
