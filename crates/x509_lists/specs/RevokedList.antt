-- The certificates of a list (RFC 5280, 5.1.2.6).
use Rattle.std.specs.Prelude.{ℕ, List, [], ◌∷◌, ◌+◌, map, sum_by}
use Rattle.x509_der.specs.Laws.{IsMarkedElement}
use Rattle.x509_der.specs.Plan.{run, to_end}
use Rattle.x509_der.specs.Promises.{ended_early}
use Rattle.x509_der.proofs.Marking.{marked}
use Rattle.x509_fields.specs.declared.error.X509Error.TheVariants as x509
use Rattle.x509_fields.specs.Errors.{is_x509_memory}
use Rattle.x509_fields.specs.Fields.{Field, sequence, as_x509_renames}
use Rattle.x509_lists.specs.RevokedCertificate.{Revoked, revoked, revoked_of, revoked_heads, revoked_laws}
use Rattle.x509_lists.specs.declared.revoked_list.RevokedList.{RevokedList}

abbrev pub revoked_list_of : RevokedList → List Revoked
revoked_list_of r = map revoked_of r.list

-- SEQUENCE OF SEQUENCE { .. } (5.1): certificates fill it, and it may be empty
unfoldable pub revoked_list : Field (List Revoked)
revoked_list = sequence (to_end (ended_early x509.NomError) (run revoked))

-- the heads of the SEQUENCE and of each certificate
abbrev pub revoked_list_heads : List Revoked → ℕ
revoked_list_heads rs = 1 + sum_by revoked_heads rs

-- none where there are no certificates
abbrev pub revocations_heads : List Revoked → ℕ
revocations_heads [] = 0
revocations_heads (r ∷ rs) = revoked_list_heads (r ∷ rs)

pub revoked_list_laws : IsMarkedElement is_x509_memory revoked_list
unfolding revoked_list
revoked_list_laws = search (marked, as_x509_renames, revoked_laws) depth 40
