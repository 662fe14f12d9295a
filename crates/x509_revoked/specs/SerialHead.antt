-- The head of a serial: a number of eight octets, which tells most serials apart and is in their order (RFC 5280, 5.1.2.6).
use Rattle.std.specs.Prelude.{ℕ, ◌+◌, ◌-◌, ◌*◌, ◌/◌, ◌^◌, cond, length, nat_lt}
use Rattle.std.specs.Int.Digits.{digits_of}

-- how many octets a number has, with no leading zeros
abbrev pub octet_count : ℕ → ℕ
octet_count n = length (digits_of 256 n)

-- how many octets the serial has, in one octet, and in the seven behind it the first seven of them; of a serial of more than 255 octets the
-- greatest such number
unfoldable pub serial_head : ℕ → ℕ
serial_head n = cond (nat_lt (octet_count n) 256) (octet_count n * 2 ^ 56 + n / 256 ^ (octet_count n - 7)) (2 ^ 64 - 1)
