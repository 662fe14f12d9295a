-- The certificates of a list in their octets (RFC 5280, 5.1.2.6).
use Rattle.std.specs.Prelude.{◌≡◌, ℕ, List, [], length}
use Rattle.x509_der.specs.Laws.{IsBytes}
use Rattle.x509_der.specs.Plan.{members}
use Rattle.x509_lists.specs.RevokedCertificate.{Revoked, revoked}

-- those that stand one behind another, from the first octet on
abbrev pub entries_in : List ℕ → List Revoked
entries_in octets = (members revoked octets).1

-- the octets are certificates, so many, and nothing stands behind the last
pub record HoldsEntries (octets : List ℕ) (count : ℕ) : Type 0 where
  pub are_bytes : IsBytes octets
  pub filled : (members revoked octets).0 ≡ []
  pub counted : length (entries_in octets) ≡ count
