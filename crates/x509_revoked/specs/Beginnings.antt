-- Where the entries of a list begin in their octets (RFC 5280, 5.1.2.6).
use Rattle.std.specs.Prelude.{ℕ, ◌-◌, List, [], ◌∷◌, length}
use Rattle.x509_der.specs.Looks.{behind}
use Rattle.x509_lists.specs.EntriesIn.{entries_in}
use Rattle.x509_lists.specs.RevokedCertificate.{Revoked}

-- where each of these entries begins among so many octets, of which these are left
abbrev pub begins : ℕ → List ℕ → List Revoked → List ℕ
begins all left [] = []
begins all left (entry ∷ entries) = (all - length left) ∷ begins all (behind left) entries

-- where the entries that fill these octets begin, in the list's order
abbrev pub beginnings : List ℕ → List ℕ
beginnings octets = begins (length octets) octets (entries_in octets)
