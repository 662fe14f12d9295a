-- Bits of numbers.
use Rattle.std.proofs.Common.{◌≡◌, ℕ, ◌/◌, ◌%◌, ◌^◌, ◌<◌, ◌≤◌, ◌==◌, false, ap, arith}
use Rattle.std.proofs.Math.Nat.{div-eq_of_lt, div-div-eq-div-mul}
use Rattle.std.proofs.Math.Pow.{pow_mono}
use Rattle.std.specs.Int.{reverse_bits, reverse_bits_onto, w8}
use Rattle.x509_fields.specs.Flags.{reversed, has_bit}

-- no bit is set behind the last one
pub beyond : (n k : ℕ) → n < 2 ^ 16 → 16 ≤ k → has_bit n k ≡ false
beyond n k small far =
    let wide : 2 ^ 16 ≤ 2 ^ k = pow_mono far in
    let none : n / 2 ^ k ≡ 0 = div-eq_of_lt (omega arith) in
    ap (λ q. q % 2 == 1) none

pub reversed-is : (n : ℕ) → reverse_bits w8 n ≡ reversed n
unfolding reverse_bits_onto
reversed-is n = simp div-div-eq-div-mul (omega arith)
