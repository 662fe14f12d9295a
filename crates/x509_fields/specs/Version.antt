-- Versions (RFC 5280, 4.1.2.1), and versions and reason codes as text.
use Rattle.std.specs.Prelude.{ℕ, ◌==◌, List, [], ◌∷◌, ◌++◌, codes, decimal, false, Option, unwrap_or}
use Rattle.std.specs.List.{find}
use Rattle.std.specs.Option.{option_map}
use Rattle.std.specs.Fmt.{digits}
use Rattle.x509_der.specs.Laws.{IsMarkedElement}
use Rattle.x509_der.specs.Leaves.{u32}
use Rattle.x509_der.proofs.Marking.{marked}
use Rattle.x509_fields.specs.declared.error.X509Error.TheVariants as x509
use Rattle.x509_fields.specs.Errors.{is_x509_memory}
use Rattle.x509_fields.specs.Fields.{Field, named}

-- Version ::= INTEGER (RFC 5280, 4.1.2.1)
unfoldable pub version : Field ℕ
version = named x509.InvalidVersion u32

-- ---- laws

pub version_laws : IsMarkedElement is_x509_memory version
unfolding version
version_laws = search marked

-- ---- texts

-- the u32 and its name
abbrev pub Named : Type 0
Named = ℕ × List ℕ

-- RFC 5280, 4.1.2.1
abbrev pub versions : List Named
versions = (0, codes "V1") ∷ (1, codes "V2") ∷ (2, codes "V3") ∷ []

-- RFC 5280, 5.3.1; 7 is not used
abbrev pub reasons : List Named
reasons =
    (0, codes "Unspecified") ∷
    (1, codes "KeyCompromise") ∷
    (2, codes "CACompromise") ∷
    (3, codes "AffiliationChanged") ∷
    (4, codes "Superseded") ∷
    (5, codes "CessationOfOperation") ∷
    (6, codes "CertificateHold") ∷
    (8, codes "RemoveFromCRL") ∷
    (9, codes "PrivilegeWithdrawn") ∷
    (10, codes "AACompromise") ∷
    []

-- the same, as keys and columns have them
abbrev pub reason_keys : List Named
reason_keys =
    (0, codes "unspecified") ∷
    (1, codes "key_compromise") ∷
    (2, codes "ca_compromise") ∷
    (3, codes "affiliation_changed") ∷
    (4, codes "superseded") ∷
    (5, codes "cessation_of_operation") ∷
    (6, codes "certificate_hold") ∷
    (8, codes "remove_from_crl") ∷
    (9, codes "privilege_withdrawn") ∷
    (10, codes "aa_compromise") ∷
    []

-- the type, and the u32 in decimal and in lower-case hex
abbrev pub numbered : List ℕ → ℕ → List ℕ
numbered type_name n = type_name ++ codes "(" ++ decimal n ++ codes " / 0x" ++ digits 16 false n ++ codes ")"

-- what a list calls a u32
abbrev pub name_of_number : List Named → ℕ → Option (List ℕ)
name_of_number names n = option_map (λ x. x.1) (find (λ x. x.0 == n) names)

abbrev pub version_text : ℕ → List ℕ
version_text n = unwrap_or (name_of_number versions n) (numbered (codes "X509Version") n)

-- of every other number, `unknown`
abbrev pub reason_word : ℕ → List ℕ
reason_word n = unwrap_or (name_of_number reason_keys n) (codes "unknown")

abbrev pub reason_text : ℕ → List ℕ
reason_text n = unwrap_or (name_of_number reasons n) (numbered (codes "ReasonCode") n)
