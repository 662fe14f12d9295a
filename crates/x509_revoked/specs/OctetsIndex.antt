-- What the index over the octets of a list answers.
use Rattle.std.specs.Prelude.{◌≡◌, ℕ, List, Option, Some, None, MatchOption, map, slice_get}
use Rattle.x509_lists.specs.EntriesIn.{entries_in}
use Rattle.x509_lists.specs.FindRevoked.{first_of, serial_numbers}
use Rattle.x509_lists.specs.RevokedCertificate.{Revoked, revoked_of}
use Rattle.x509_lists.specs.declared.revoked_certificate.RevokedCertificate.{RevokedCertificate}
use Rattle.x509_revoked.specs.Beginnings.{beginnings}
use Rattle.x509_revoked.specs.Entries.{Indexed}
use Rattle.x509_revoked.specs.HeadedEntries.{offsets_of}
use Rattle.x509_revoked.specs.IndexOf.{placed}
use Rattle.x509_revoked.specs.declared.entries_index.EntriesIndex.{EntriesIndex}

-- the entries that it is of
abbrev pub indexed_entries : EntriesIndex → List Revoked
indexed_entries index = entries_in index.octets.now

-- its offsets, each with the serial there
abbrev pub placed_in : EntriesIndex → List Indexed
placed_in index = map (placed index.octets.now) (offsets_of index.entries.items)

-- where the first entry with the number begins; none where none has it
abbrev pub BeginsFirst : EntriesIndex → ℕ → Option ℕ → Type 0
BeginsFirst index number found =
    MatchOption found (first_of (serial_numbers (indexed_entries index)) number ≡ None) (λ offset. (position : ℕ) × (first_of (serial_numbers (indexed_entries index)) number ≡ Some position) × (slice_get (beginnings index.octets.now) position ≡ Some offset))

-- the first entry with the number; none where none has it
abbrev pub IsFirst : List Revoked → ℕ → Option RevokedCertificate → Type 0
IsFirst all number found =
    MatchOption found (first_of (serial_numbers all) number ≡ None) (λ certificate. (position : ℕ) × (first_of (serial_numbers all) number ≡ Some position) × (slice_get all position ≡ Some (revoked_of certificate)))
