-- Sizes of keys, in bits.
use Rattle.std.specs.Prelude.{ℕ, ◌*◌, ◌-◌, ◌^◌, min}

-- the bits of so many octets; the product stops at the greatest usize
abbrev pub bits_in : ℕ → ℕ
bits_in octets = min (8 * octets) (2 ^ 64 - 1)
