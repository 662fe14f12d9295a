-- Named bits of a BIT STRING (X.690, 8.6.2; RFC 5280, 4.2.1.3 and 4.2.1.13).
use Rattle.std.specs.Prelude.{ℕ, ◌+◌, ◌*◌, ◌/◌, ◌%◌, ◌^◌, ◌==◌, Bool, get_or}
use Rattle.x509_der.specs.Primitives.{Bits}

-- the octet from its other end: its most significant bit counts 1, and its least significant one 128
abbrev pub reversed : ℕ → ℕ
reversed octet =
    octet / 128 % 2 + octet / 64 % 2 * 2 + octet / 32 % 2 * 4 + octet / 16 % 2 * 8
    + octet / 8 % 2 * 16 + octet / 4 % 2 * 32 + octet / 2 % 2 * 64 + octet % 2 * 128

-- bit k of a string of bits counts 2 ^ k, where bit 0 is the most significant one of the first octet (X.690, 8.6.2.1); a missing octet
-- has no bit set, and from the third octet on no bit has a name
unfoldable pub flags_in : Bits → ℕ
flags_in b = reversed (get_or b.bytes 0 0) + 256 * reversed (get_or b.bytes 1 0)

-- whether bit k is set
abbrev pub has_bit : ℕ → ℕ → Bool
has_bit flags k = flags / 2 ^ k % 2 == 1
