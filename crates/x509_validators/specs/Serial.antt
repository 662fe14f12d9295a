-- What is wrong with the octets of a serial (RFC 5280, 4.1.2.2).
use Rattle.std.specs.Prelude.{ℕ, Bool, false, not, ◌&&◌, ◌==◌, List, [], ◌∷◌, codes, length, nat_lt}
use Rattle.x509_validators.specs.PublicKey.{is_negative}
use Rattle.x509_validators.specs.Rules.{Row, error_where, warning_where}

abbrev pub is_there : List ℕ → Bool
is_there serial = not (length serial == 0)

-- fewer octets would do (X.690, 8.3.2)
unfoldable pub has_leading_zeros : List ℕ → Bool
has_leading_zeros (first ∷ second ∷ _) = first == 0 && nat_lt second 128
has_leading_zeros _ = false

abbrev pub serial_rules : List ℕ → List Row
serial_rules serial =
    error_where (not (is_there serial)) (codes "Serial is empty")
    ∷ warning_where (is_negative serial) (codes "Serial number is negative")
    ∷ warning_where (has_leading_zeros serial) (codes "Leading zeroes in serial number") ∷ []
