-- Numbers of few octets are small.
use Rattle.std.proofs.Common.{ℕ, ◌+◌, ◌*◌, ◌^◌, ◌<◌, ◌≤◌, arith}
use Rattle.std.proofs.lemmas.Grind.{pow_more}
use Rattle.std.proofs.Math.Nat.{pow-le-pow_right}

-- a number of i octets, with one more behind them
pub one_more : (i n d : ℕ) → n < 256 ^ i → d < 256 → n * 256 + d < 256 ^ (i + 1)
one_more i n d lt small = omega (arith, lt, small, pow_more 256 i)

pub at_most_8 : (i n : ℕ) → i ≤ 8 → n < 256 ^ i → n < 2 ^ 64
at_most_8 i n le lt = omega (arith, lt, pow-le-pow_right {n = 256} (omega arith) {i = i} {j = 8} le)
