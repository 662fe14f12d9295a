use Rattle.std.proofs.Common.{◌≡◌, ◌++◌, map}
use Rattle.x509_lists.specs.ListEntries.{tbs_entries_of}
use Rattle.x509_lists.specs.RevokedCertificate.{revoked_of}
use Rattle.x509_lists.specs.RevokedEntries.{entries_left, entries_of}
use Rattle.x509_revoked_cli.specs.Issuers.{are_readable, entries_under, under}
use Rattle.x509_revoked_cli.proofs.issuers.entries_under.Given as goal

-- the entries so far were looked at, and what they say can be read
abbrev pub invariant-loop-read : goal.invariant-loop-read
invariant-loop-read l = record {
  readable : are_readable (entries_left l.read-iterator) ≡ are_readable (entries_of l.tbs.revoked_certificates);
  entries : map revoked_of l.entries.items ++ under l.text l.ours (entries_left l.read-iterator) ≡ entries_under l.text (tbs_entries_of l.tbs);
}
