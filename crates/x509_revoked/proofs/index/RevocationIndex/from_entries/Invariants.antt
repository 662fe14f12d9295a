use Rattle.std.proofs.Common.{◌≡◌, map, take}
use Rattle.x509_lists.specs.FindRevoked.{serial_numbers}
use Rattle.x509_lists.specs.RevokedCertificate.{revoked_of}
use Rattle.x509_revoked.specs.Entries.{indexed, indexed_from}
use Rattle.x509_revoked.proofs.index.RevocationIndex.from_entries.Given as goal

-- the serials so far, each with its position
abbrev pub invariant-loop-certificate : goal.invariant-loop-certificate
invariant-loop-certificate l =
    map indexed l.entries.items ≡ indexed_from 0 (serial_numbers (map revoked_of (take l.certificate-index l.revoked)))
