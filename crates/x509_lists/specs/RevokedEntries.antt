-- The certificates of a list that are read where they stand, as they are asked for (RFC 5280, 5.1.2.6).
use Rattle.std.specs.Prelude.{◌≡◌, ℕ, List, [], ◌∷◌, Option, MatchOption, MatchResult, Result}
use Rattle.x509_der.specs.Looks.{behind}
use Rattle.x509_der.specs.Unsigned.{unsigned_bytes}
use Rattle.x509_der.specs.declared.unsigned.UnsignedBytes.{UnsignedBytes}
use Rattle.x509_fields.specs.declared.error.X509Error.{X509Error}
use Rattle.x509_fields.specs.declared.error.X509Error.TheVariants.{OutOfMemory}
use Rattle.x509_lists.specs.EntriesIn.{entries_in}
use Rattle.x509_lists.specs.RevokedCertificate.{Revoked, revoked_of}
use Rattle.x509_lists.specs.declared.revoked_certificate.RevokedCertificate.{RevokedCertificate}
use Rattle.x509_lists.specs.declared.revoked_entries.RevokedEntries.{RevokedEntries}
use Rattle.x509_lists.specs.declared.entries_iter.EntriesIter.{EntriesIter}

-- the octets in which they stand, end to end
abbrev pub octets_of : RevokedEntries → List ℕ
octets_of r = r.bytes.now

-- the certificates, in order
abbrev pub entries_of : RevokedEntries → List Revoked
entries_of r = entries_in r.bytes.now

-- what an iterator still gives
abbrev pub entries_left : EntriesIter → List Revoked
entries_left s = entries_of s.left

-- a certificate, or that memory is wanting for its extensions
abbrev pub IsEntry : Revoked → Result RevokedCertificate X509Error → Type 0
IsEntry entry read = MatchResult read (λ certificate. revoked_of certificate ≡ entry) (λ e. e ≡ OutOfMemory)

-- the first of what is left, or none where nothing is; it is passed even where memory is wanting for it
abbrev pub GivesEntry : EntriesIter → Option (Result RevokedCertificate X509Error) → EntriesIter → Type 0
GivesEntry s r t = MatchOption r ((entries_left s ≡ []) × (entries_left t ≡ [])) (λ read. (entry : Revoked) × (entries_left s ≡ entry ∷ entries_left t) × IsEntry entry read)

-- the serial of the first certificate, and the certificates behind it; none where there is none
abbrev pub IsSplit : RevokedEntries → Option (UnsignedBytes × RevokedEntries) → Type 0
IsSplit s r = MatchOption r (entries_of s ≡ []) (λ x. (entry : Revoked) × (entries_of s ≡ entry ∷ entries_of x.1) × (entry.serial ≡ unsigned_bytes x.0) × (x.1.bytes.now ≡ behind s.bytes.now))
