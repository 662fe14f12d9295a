-- Lists of revoked certificates (RFC 5280, 5.1).
use Rattle.std.specs.Prelude.{ℕ, List, map}
use Rattle.x509_der.specs.declared.error.Err.TheVariants.{Error}
use Rattle.x509_der.specs.Laws.{IsMarkedElement}
use Rattle.x509_der.specs.Plan.{plain_only}
use Rattle.x509_der.specs.Primitives.{bit_string}
use Rattle.x509_der.proofs.Marked.{plain_only_laws}
use Rattle.x509_fields.specs.Algorithm.{algorithm_of}
use Rattle.x509_fields.specs.declared.error.X509Error.TheVariants as x509
use Rattle.x509_fields.specs.Errors.{is_x509_memory}
use Rattle.x509_fields.specs.Fields.{Field}
use Rattle.x509_fields.specs.Signed.{Signed, signed, signed_heads, signed_laws, SignedStands}
use Rattle.x509_lists.specs.RevokedCertificate.{Revoked, revoked_of}
use Rattle.x509_lists.specs.TbsCertList.{TbsList, tbs_list, tbs_list_with, tbs_list_heads, tbs_list_laws}
use Rattle.x509_lists.specs.declared.certificate_list.CertificateListOf.{CertificateListOf}
use Rattle.x509_lists.specs.declared.revoked_certificate.RevokedCertificate.{RevokedCertificate}

-- its certificates as they are kept
abbrev pub list_with : {R : Type 0} → (R → List Revoked) → CertificateListOf R → Signed TbsList
list_with entries c = record {
  raw = c.raw.now;
  tbs = tbs_list_with entries c.tbs_cert_list;
  signature_algorithm = algorithm_of c.signature_algorithm;
  signature_value = bit_string c.signature_value;
}

-- in memory
abbrev pub list_of : CertificateListOf (List RevokedCertificate) → Signed TbsList
list_of = list_with (map revoked_of)

-- CertificateList ::= SEQUENCE { tbsCertList TBSCertList, signatureAlgorithm AlgorithmIdentifier, signatureValue BIT STRING }
unfoldable pub certificate_list : Field (Signed TbsList)
certificate_list = signed tbs_list

-- lists that stand plainly, alone
abbrev pub plain_list : Field (Signed TbsList)
plain_list = plain_only (Error x509.Generic) certificate_list

-- A front of the bytes was read as this list. The list's window is that front; the signed part's window is that part, whole, and read
-- again by its own reader it gives an equal value and no rest.
abbrev pub ListStands : List ℕ → Signed TbsList → List ℕ → Type 0
ListStands = SignedStands tbs_list (λ t. t.raw)

abbrev pub list_heads : Signed TbsList → ℕ
list_heads = signed_heads tbs_list_heads

pub certificate_list_laws : IsMarkedElement is_x509_memory certificate_list
unfolding certificate_list
certificate_list_laws = signed_laws tbs_list tbs_list_laws

pub plain_list_laws : IsMarkedElement is_x509_memory plain_list
plain_list_laws = plain_only_laws is_x509_memory x509.Generic certificate_list certificate_list_laws
