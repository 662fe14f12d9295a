-- The serial number (RFC 5280, 4.1.2.2).
use Rattle.std.specs.Prelude.{ℕ, List, [], ◌∷◌, Bool, true, false, not, ◌==◌, ◌&&◌, nat_lt, nat_le, ◌≡◌}
use Rattle.x509_der.specs.declared.header.Header.{Header}
use Rattle.x509_der.specs.Primitives.{has_number, is_universal, is_primitive}
use Rattle.x509_der.specs.Plan.{relaxed, plain_where}
use Rattle.x509_der.specs.Leaves.{BerPlan, integer, contents}
use Rattle.x509_der.specs.Promises.{is_ber_memory}
use Rattle.x509_der.specs.Reading.{loose}
use Rattle.x509_fields.specs.declared.error.X509Error.TheVariants as x509
use Rattle.x509_fields.specs.Errors.{is_x509_memory}
use Rattle.x509_fields.specs.Fields.{Field, named}
use Rattle.x509_der.proofs.Marked.{both_1}
use Rattle.x509_der.specs.Laws.{IsMarkedField, Anywhere}
use Rattle.x509_der.proofs.Marking.{marked, relaxed_integer_marked}

-- an INTEGER's octets that are as few as can be (X.690, 8.3.2)
abbrev pub are_fewest : List ℕ → Bool
are_fewest [] = false
are_fewest (octet ∷ []) = true
are_fewest (octet ∷ second ∷ octets) = not (octet == 0 && nat_lt second 128) && not (octet == 255 && nat_le 128 second)

unfoldable pub serial_contents : BerPlan (List ℕ)
serial_contents = relaxed (contents (has_number 2) loose) (plain_where are_fewest integer)

-- CertificateSerialNumber ::= INTEGER: any element of its number, whatever its class, form, length octets and contents, as issuers
-- have written them. Plainly it is an INTEGER in the fewest octets, its sign free.
unfoldable pub serial : Field (List ℕ)
serial = named x509.InvalidSerial serial_contents

number_of_integer : (h : Header) → is_primitive 2 h ≡ true → has_number 2 h ≡ true
number_of_integer h own = both_1 (not h.constructed) (h.tag.0 == 2) (both_1 (is_universal h.class) (not h.constructed && h.tag.0 == 2) own)

pub serial_contents_laws : IsMarkedField is_ber_memory Anywhere serial_contents
unfolding serial_contents
serial_contents_laws = relaxed_integer_marked (has_number 2) are_fewest (λ h own. number_of_integer h own)

pub serial_laws : IsMarkedField is_x509_memory Anywhere serial
unfolding serial
serial_laws = search (marked, serial_contents_laws)
