-- Lists of revoked certificates whose certificates are left in their octets (RFC 5280, 5.1).
use Rattle.x509_fields.specs.Signed.{Signed}
use Rattle.x509_lists.specs.CertificateList.{list_with}
use Rattle.x509_lists.specs.RevokedEntries.{entries_of}
use Rattle.x509_lists.specs.TbsCertList.{TbsList, tbs_list_with}
use Rattle.x509_lists.specs.declared.certificate_list.CertificateListOf.{CertificateListOf}
use Rattle.x509_lists.specs.declared.revoked_entries.RevokedEntries.{RevokedEntries}
use Rattle.x509_lists.specs.declared.tbs_cert_list.TbsCertListOf.{TbsCertListOf}

abbrev pub tbs_entries_of : TbsCertListOf RevokedEntries → TbsList
tbs_entries_of = tbs_list_with entries_of

abbrev pub list_entries_of : CertificateListOf RevokedEntries → Signed TbsList
list_entries_of = list_with entries_of
