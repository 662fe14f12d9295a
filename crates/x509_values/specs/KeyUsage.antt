-- KeyUsage ::= BIT STRING {
--     digitalSignature  (0),
--     nonRepudiation    (1),
--     keyEncipherment   (2),
--     dataEncipherment  (3),
--     keyAgreement      (4),
--     keyCertSign       (5),
--     cRLSign           (6),
--     encipherOnly      (7),
--     decipherOnly      (8) }
-- (RFC 5280, 4.2.1.3)
use Rattle.std.specs.Prelude.{ℕ, List, [], ◌∷◌, codes}
use Rattle.x509_der.specs.Laws.{IsMarkedElement}
use Rattle.x509_der.specs.Leaves.{bits}
use Rattle.x509_der.proofs.Marking.{marked}
use Rattle.x509_fields.specs.Errors.{is_x509_memory}
use Rattle.x509_fields.specs.Fields.{Field, lifted, as_x509_renames}
use Rattle.x509_fields.specs.NamedBits.{named_bits, named_bits_marked}
use Rattle.x509_values.specs.declared.key_usage.KeyUsage.{KeyUsage}

-- ---- the value

abbrev pub key_usage_of : KeyUsage → ℕ
key_usage_of u = u.flags

-- ---- the grammar

unfoldable pub key_usage : Field ℕ
key_usage = named_bits (lifted bits)

-- ---- the text

-- the names of the bits, from bit 0 on
abbrev pub key_usage_names : List (List ℕ)
key_usage_names =
    codes "Digital Signature" ∷
    codes "Non Repudiation" ∷
    codes "Key Encipherment" ∷
    codes "Data Encipherment" ∷
    codes "Key Agreement" ∷
    codes "Key Cert Sign" ∷
    codes "CRL Sign" ∷
    codes "Encipher Only" ∷
    codes "Decipher Only" ∷
    []

-- the standard's names of the bits
abbrev pub key_usage_words : List (List ℕ)
key_usage_words =
    codes "digital_signature" ∷
    codes "non_repudiation" ∷
    codes "key_encipherment" ∷
    codes "data_encipherment" ∷
    codes "key_agreement" ∷
    codes "key_cert_sign" ∷
    codes "crl_sign" ∷
    codes "encipher_only" ∷
    codes "decipher_only" ∷
    []

-- ---- laws

pub key_usage_laws : IsMarkedElement is_x509_memory key_usage
unfolding key_usage
key_usage_laws = named_bits_marked is_x509_memory (lifted bits) (search (marked, as_x509_renames) depth 20)
