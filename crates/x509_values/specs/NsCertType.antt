-- NetscapeCertType ::= BIT STRING {
--     sslClient        (0),
--     sslServer        (1),
--     sMIME            (2),
--     objectSigning    (3),
--     reserved         (4),
--     sslCA            (5),
--     sMIMECA          (6),
--     objectSigningCA  (7) }
-- (Netscape certificate extensions), of one octet
use Rattle.std.specs.Prelude.{ℕ, List, [], ◌∷◌, Option, Some, None, codes}
use Rattle.x509_der.specs.Laws.{IsMarkedElement}
use Rattle.x509_der.specs.Leaves.{BerPlan, bits}
use Rattle.x509_der.specs.Plan.{mapped}
use Rattle.x509_der.specs.Primitives.{as_refusal, some_or_bad}
use Rattle.x509_der.specs.Promises.{is_ber_memory}
use Rattle.x509_der.proofs.Marking.{marked, mapped_marked, bits_marked}
use Rattle.x509_der.proofs.WantOfMemory.{kind_refused}
use Rattle.x509_fields.specs.Errors.{is_x509_memory}
use Rattle.x509_fields.specs.Fields.{Field, lifted, as_x509_renames}
use Rattle.x509_fields.specs.Flags.{reversed}
use Rattle.x509_values.specs.declared.ns_cert_type.NSCertType.{NSCertType}

-- ---- the value

abbrev pub ns_cert_type_of : NSCertType → ℕ
ns_cert_type_of t = t.flags

-- ---- the grammar

-- the bits of one octet, of which bit k counts 2 ^ k
abbrev pub octet_flags : List ℕ → Option ℕ
octet_flags (octet ∷ []) = Some (reversed octet)
octet_flags _ = None

unfoldable pub octet_of_bits : BerPlan ℕ
octet_of_bits = mapped bits (λ b. as_refusal (some_or_bad (octet_flags b.bytes)))

unfoldable pub ns_cert_type : Field ℕ
ns_cert_type = lifted octet_of_bits

-- ---- the text

-- the names of the bits, from bit 0 on
abbrev pub ns_cert_type_names : List (List ℕ)
ns_cert_type_names =
    codes "SSL CLient" ∷
    codes "SSL Server" ∷
    codes "S/MIME" ∷
    codes "Object Signing" ∷
    codes "Reserved" ∷
    codes "SSL CA" ∷
    codes "S/MIME CA" ∷
    codes "Object Signing CA" ∷
    []

-- the specification's names of the bits
abbrev pub ns_cert_type_words : List (List ℕ)
ns_cert_type_words =
    codes "ssl_client" ∷
    codes "ssl_server" ∷
    codes "smime" ∷
    codes "object_signing" ∷
    codes "reserved" ∷
    codes "ssl_ca" ∷
    codes "smime_ca" ∷
    codes "object_signing_ca" ∷
    []

-- ---- laws

pub octet_of_bits_laws : IsMarkedElement is_ber_memory octet_of_bits
unfolding octet_of_bits
octet_of_bits_laws = mapped_marked is_ber_memory bits (λ b. as_refusal (some_or_bad (octet_flags b.bytes))) bits_marked (λ b r e. kind_refused (some_or_bad (octet_flags b.bytes)) r e)

pub ns_cert_type_laws : IsMarkedElement is_x509_memory ns_cert_type
unfolding ns_cert_type
ns_cert_type_laws = search (marked, as_x509_renames, octet_of_bits_laws) depth 20
