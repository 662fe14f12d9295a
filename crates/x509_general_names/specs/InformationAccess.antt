-- Where more about an issuer or a subject is found (RFC 5280, 4.2.2.1 and 4.2.2.2).
use Rattle.std.specs.Prelude.{ℕ, ◌+◌, List, Option, map, sum_by}
use Rattle.x509_der.specs.Laws.{IsMarkedElement}
use Rattle.x509_der.specs.Leaves.{oid}
use Rattle.x509_der.specs.Oid.{oid_bytes}
use Rattle.x509_der.specs.declared.oid.Oid.{Oid}
use Rattle.x509_der.specs.Plan.{◌>>=◌, give, run, to_end}
use Rattle.x509_der.specs.Promises.{ended_early}
use Rattle.x509_der.proofs.Marking.{marked}
use Rattle.x509_fields.specs.Errors.{is_x509_memory}
use Rattle.x509_fields.specs.Fields.{Field, lifted, sequence, as_x509_renames}
use Rattle.x509_general_names.specs.declared.general_name.GeneralName.{GeneralName}
use Rattle.x509_general_names.specs.declared.information_access.AccessDescription.{AccessDescription}
use Rattle.x509_general_names.specs.declared.information_access.AuthorityInfoAccess.{AuthorityInfoAccess}
use Rattle.x509_general_names.specs.declared.information_access.SubjectInfoAccess.{SubjectInfoAccess}
use Rattle.x509_fields.specs.Lists.{list_error}
use Rattle.x509_general_names.specs.GeneralName.{GeneralNameValue, general_name_of, general_name_heads, general_name}
use Rattle.x509_general_names.specs.GeneralNameLaws.{general_name_laws}
use Rattle.x509_fields.specs.Groups.{grouped}

-- ---- the values

-- an identifier's octets, and a name
pub record Access : Type 0 where
  pub method : List ℕ
  pub location : GeneralNameValue

abbrev pub access_of : AccessDescription → Access
access_of a = record { method = oid_bytes a.access_method; location = general_name_of a.access_location }

abbrev pub authority_accesses_of : AuthorityInfoAccess → List Access
authority_accesses_of a = map access_of a.accessdescs

abbrev pub subject_accesses_of : SubjectInfoAccess → List Access
subject_accesses_of a = map access_of a.accessdescs

-- ---- the grammar

-- AccessDescription ::= SEQUENCE {
--     accessMethod    OBJECT IDENTIFIER,
--     accessLocation  GeneralName }
unfoldable pub access_description : Field Access
access_description = sequence do
  method ← lifted oid
  location ← general_name
  give (record { method = method; location = location })

-- AuthorityInfoAccessSyntax ::= SEQUENCE SIZE (1..MAX) OF AccessDescription, and SubjectInfoAccessSyntax the same; it may be empty
unfoldable pub information_access : Field (List Access)
information_access = sequence (to_end (ended_early list_error) (run access_description))

-- ---- heads

abbrev pub access_heads : Access → ℕ
access_heads a = 2 + general_name_heads a.location

abbrev pub information_access_heads : List Access → ℕ
information_access_heads accesses = 1 + sum_by access_heads accesses

-- ---- laws

pub access_description_laws : IsMarkedElement is_x509_memory access_description
unfolding access_description
access_description_laws = search (marked, as_x509_renames, general_name_laws) depth 40

pub information_access_laws : IsMarkedElement is_x509_memory information_access
unfolding information_access
information_access_laws = search (marked, as_x509_renames, access_description_laws) depth 40

-- ---- maps

-- the locations under a method, in order; none where there is no such method
abbrev pub locations : List AccessDescription → Oid → Option (List GeneralName)
locations accesses q = grouped (λ a. a.access_method) (λ a. a.access_location) accesses q
