use Rattle.x509_lists.specs.RevokedCertificate.{revoked_laws}
use Rattle.x509_lists.specs.RevokedList.{revoked_list_laws}
use Rattle.x509_lists.specs.TbsCertList.{tbs_list_laws}
use Rattle.x509_lists.specs.CertificateList.{certificate_list_laws}
use Rattle.x509_lists.proofs.Windows.{tbs_list_window, list_stands}
use Rattle.x509_lists.proofs.laws.grammar_laws.Goals as goal

pub returns-clause-revoked : goal.returns-clause-revoked
returns-clause-revoked c = revoked_laws

pub returns-clause-revoked_list : goal.returns-clause-revoked_list
returns-clause-revoked_list c = revoked_list_laws

pub returns-clause-tbs_list : goal.returns-clause-tbs_list
returns-clause-tbs_list c = tbs_list_laws

pub returns-clause-certificate_list : goal.returns-clause-certificate_list
returns-clause-certificate_list c = certificate_list_laws

pub returns-clause-tbs_list_window : goal.returns-clause-tbs_list_window
returns-clause-tbs_list_window c = tbs_list_window

pub returns-clause-list_stands : goal.returns-clause-list_stands
returns-clause-list_stands c = list_stands
