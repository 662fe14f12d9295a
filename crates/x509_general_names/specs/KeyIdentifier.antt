-- KeyIdentifier ::= OCTET STRING (RFC 5280, 4.2.1.2)
use Rattle.std.specs.Prelude.{ℕ, List}
use Rattle.x509_der.specs.Laws.{IsMarkedElement}
use Rattle.x509_der.specs.Leaves.{octets}
use Rattle.x509_der.proofs.Marking.{marked}
use Rattle.x509_fields.specs.Errors.{is_x509_memory}
use Rattle.x509_fields.specs.Fields.{Field, lifted, as_x509_renames}
use Rattle.x509_general_names.specs.declared.key_identifier.KeyIdentifier.{KeyIdentifier}

-- ---- the value

abbrev pub key_identifier_of : KeyIdentifier → List ℕ
key_identifier_of k = k.0.now

-- ---- the grammar

unfoldable pub key_identifier : Field (List ℕ)
key_identifier = lifted octets

-- ---- laws

pub key_identifier_laws : IsMarkedElement is_x509_memory key_identifier
unfolding key_identifier
key_identifier_laws = search (marked, as_x509_renames) depth 20
