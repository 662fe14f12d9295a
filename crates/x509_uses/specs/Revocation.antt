-- What a user looks up on a list of revoked certificates.
use Rattle.std.specs.Prelude.{◌≡◌, ℕ, List, Option, Some, None, MatchOption, slice_get, length}
use Rattle.std.specs.List.{filter}
use Rattle.std.specs.Option.{is_some}
use Rattle.x509_der.specs.Promises.{IsFront}
use Rattle.x509_der.specs.Unsigned.{unsigned_number}
use Rattle.x509_der.specs.declared.unsigned.UnsignedBytes.{UnsignedBytes}
use Rattle.x509_fields.specs.Signed.{Signed}
use Rattle.x509_lists.specs.CertificateList.{certificate_list}
use Rattle.x509_lists.specs.FindEntries.{IsFound}
use Rattle.x509_lists.specs.FindRevoked.{first_of, serial_numbers}
use Rattle.x509_lists.specs.RevokedCertificate.{Revoked}
use Rattle.x509_lists.specs.TbsCertList.{TbsList}
use Rattle.x509_lists.specs.declared.revoked_certificate.RevokedCertificate.{RevokedCertificate}

-- the first entry with the number; none where none has it
abbrev pub IsEntryOf : List Revoked → ℕ → Option Revoked → Type 0
IsEntryOf all number found =
    MatchOption found (first_of (serial_numbers all) number ≡ None)
    (λ entry. (k : ℕ) × (first_of (serial_numbers all) number ≡ Some k) × (slice_get all k ≡ Some entry))

-- the first entry with the number on the list at the front of the octets, and its position
abbrev pub IsEntryIn : List ℕ → ℕ → Option (ℕ × RevokedCertificate) → Type 0
IsEntryIn octets number found =
    (list : Signed TbsList) × (rest : List ℕ) × IsFront certificate_list octets list rest × IsFound list.tbs.revoked_certificates number found

-- how many of the serials are numbers of entries
abbrev pub count_among : List Revoked → List UnsignedBytes → ℕ
count_among all serials = length (filter (λ s. is_some (first_of (serial_numbers all) (unsigned_number s))) serials)
