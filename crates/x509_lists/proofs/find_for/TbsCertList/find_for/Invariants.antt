use Rattle.std.proofs.Common.{◌≡◌, drop, map}
use Rattle.x509_der.specs.Unsigned.{unsigned_number}
use Rattle.x509_lists.specs.EntryIssuers.{place_for}
use Rattle.x509_lists.specs.RevokedCertificate.{revoked_of}
use Rattle.x509_lists.specs.TbsCertList.{tbs_list_of}
use Rattle.x509_names.specs.Names.{name_of}
use Rattle.x509_lists.proofs.Issuers.{Walked}
use Rattle.x509_lists.proofs.find_for.TbsCertList.find_for.Given as goal

-- those before the position were passed
abbrev pub invariant-loop-certificate : goal.invariant-loop-certificate
invariant-loop-certificate l = record {
  counted : l.position ≡ l.certificate-index;
  walked :
      let all = (tbs_list_of l.self).revoked_certificates in
      let issuer = name_of l.issuer in
      let own = name_of l.self.issuer in
      let number = unsigned_number l.serial in Walked issuer.raw number all (place_for own.raw all issuer.raw number) l.ours l.position (map revoked_of (drop l.certificate-index l.revoked));
}
