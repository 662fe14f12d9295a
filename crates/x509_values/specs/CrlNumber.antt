-- CRLNumber ::= INTEGER (0..MAX) (RFC 5280, 5.2.3)
use Rattle.std.specs.Prelude.{ℕ, List}
use Rattle.x509_der.specs.Laws.{IsMarkedElement}
use Rattle.x509_der.specs.Leaves.{unsigned}
use Rattle.x509_der.specs.Unsigned.{unsigned_bytes}
use Rattle.x509_der.proofs.Marking.{marked}
use Rattle.x509_fields.specs.Errors.{is_x509_memory}
use Rattle.x509_fields.specs.Fields.{Field, lifted, as_x509_renames}
use Rattle.x509_values.specs.declared.crl_number.CRLNumber.{CRLNumber}

-- ---- the value

-- its digits of base 256, the most significant first
abbrev pub crl_number_of : CRLNumber → List ℕ
crl_number_of n = unsigned_bytes n.0

-- ---- the grammar

unfoldable pub crl_number : Field (List ℕ)
crl_number = lifted unsigned

-- ---- laws

pub crl_number_laws : IsMarkedElement is_x509_memory crl_number
unfolding crl_number
crl_number_laws = search (marked, as_x509_renames) depth 20
