-- The entry of a serial among certificates in their octets (RFC 5280, 5.1.2.6).
use Rattle.std.specs.Prelude.{◌≡◌, ℕ, List, ◌∷◌, Option, Some, None, MatchOption, drop, slice_get}
use Rattle.x509_lists.specs.FindRevoked.{first_of, serial_numbers}
use Rattle.x509_lists.specs.RevokedCertificate.{Revoked, revoked_of}
use Rattle.x509_lists.specs.declared.revoked_certificate.RevokedCertificate.{RevokedCertificate}

-- the first certificate with the number has this position, and these are those from it on
pub record IsSought (all : List Revoked) (number position : ℕ) (left : List Revoked) : Type 0 where
  pub first : first_of (serial_numbers all) number ≡ Some position
  pub entry : Revoked
  pub others : List Revoked
  pub stands : drop position all ≡ entry ∷ others
  pub is_left : left ≡ entry ∷ others

-- the position of the first certificate with the number, and that certificate; none where none has it
abbrev pub IsFound : List Revoked → ℕ → Option (ℕ × RevokedCertificate) → Type 0
IsFound all number found =
    MatchOption found (first_of (serial_numbers all) number ≡ None) (λ x. (first_of (serial_numbers all) number ≡ Some x.0) × (slice_get all x.0 ≡ Some (revoked_of x.1)))
