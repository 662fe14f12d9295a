-- The entry of a serial on a list (RFC 5280, 5.1.2.6).
use Rattle.std.specs.Prelude.{ℕ, List, Option, map, ◌==◌}
use Rattle.std.specs.Int.Digits.{number_from_digits}
use Rattle.std.specs.List.{position}
use Rattle.x509_lists.specs.RevokedCertificate.{Revoked}

-- the serials as unsigned numbers, in order
abbrev pub serial_numbers : List Revoked → List ℕ
serial_numbers entries = map (λ r. number_from_digits 256 r.serial) entries

-- the least position of the number in a list
abbrev pub first_of : List ℕ → ℕ → Option ℕ
first_of numbers number = position (λ n. n == number) numbers
