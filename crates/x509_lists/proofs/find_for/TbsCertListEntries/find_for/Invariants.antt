use Rattle.x509_der.specs.Unsigned.{unsigned_number}
use Rattle.x509_lists.specs.EntryIssuers.{place_for}
use Rattle.x509_lists.specs.RevokedEntries.{entries_of, entries_left}
use Rattle.x509_names.specs.Names.{name_of}
use Rattle.x509_lists.proofs.Issuers.{Walked}
use Rattle.x509_lists.proofs.find_for.TbsCertListEntries.find_for.Given as goal

abbrev pub invariant-loop-read : goal.invariant-loop-read
invariant-loop-read l = record {
  can_next : goal.iterator-loop-read.can_next l.entries;
  is_finite : goal.iterator-loop-read.is_finite l.entries;
  walked :
      let all = entries_of l.self.revoked_certificates in
      let issuer = name_of l.issuer in
      let own = name_of l.self.issuer in
      let number = unsigned_number l.serial in Walked issuer.raw number all (place_for own.raw all issuer.raw number) l.ours l.position (entries_left l.entries);
}
