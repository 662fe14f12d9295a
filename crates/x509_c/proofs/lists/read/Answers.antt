-- What is promised of lists, or of plain ones.
use Rattle.std.proofs.Common.{ℕ, Bool, List, true, subst, sym, Bor}
use Rattle.x509_der.specs.Promises.{ReadsWhere}
use Rattle.x509_fields.specs.Errors.{is_x509_memory}
use Rattle.x509_fields.specs.Signed.{Signed}
use Rattle.x509_lists.specs.CertificateList.{list_of}
use Rattle.x509_lists.specs.TbsCertList.{TbsList}
use Rattle.x509_lists.specs.declared.certificate_list.CertificateListOf.{CertificateListOf}
use Rattle.x509_lists.specs.declared.revoked_certificate.RevokedCertificate.{RevokedCertificate}
use Rattle.x509_c.specs.Lists.{list_by}
use Rattle.x509_c.proofs.lists.read.Goals as goal

abbrev seen : Bor (List ℕ) × CertificateListOf (List RevokedCertificate) → List ℕ × Signed TbsList
seen x = (x.0.now, list_of x.1)

pub returns-then-strict : goal.returns-then-strict
returns-then-strict c =
    subst (λ (s : Bool). ReadsWhere is_x509_memory true seen (list_by s) c.args.der.now c.parse_located.result) (sym c.if-strict.true) c.parse_located.ensures.exact

pub returns-else-strict : goal.returns-else-strict
returns-else-strict c =
    subst (λ (s : Bool). ReadsWhere is_x509_memory true seen (list_by s) c.args.der.now c.from_der_located.result) (sym c.if-strict.false) c.from_der_located.ensures
