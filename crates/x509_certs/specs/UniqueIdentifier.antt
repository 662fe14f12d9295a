-- Unique identifiers of issuer and subject (RFC 5280, 4.1.2.8).
use Rattle.std.specs.Prelude.{◌≡◌, ◌≤◌, ◌+◌, ◌-◌, ◌*◌, ℕ, List, true, Option, Result, IfOk, IfErr, min, length}
use Rattle.x509_der.specs.declared.error.Refused.{Refused}
use Rattle.x509_der.specs.declared.fields.Fields.{Fields}
use Rattle.x509_der.specs.Fields.{next_of, plain_in, outer_of}
use Rattle.x509_der.specs.Primitives.{Bits, is_implicit, bit_string}
use Rattle.x509_der.specs.Plan.{hard}
use Rattle.x509_der.specs.Leaves.{any_header, implicit_bits}
use Rattle.x509_der.specs.Promises.{GivesAt, is_ber_memory, option_heads, option_view}
use Rattle.x509_der.specs.Reading.{AddsAtLeast}
use Rattle.x509_fields.specs.declared.error.X509Error.{X509Error}
use Rattle.x509_fields.specs.declared.error.X509Error.TheVariants as x509
use Rattle.x509_fields.specs.Errors.{is_x509_memory}
use Rattle.x509_fields.specs.Fields.{Field, named}
use Rattle.x509_der.proofs.Lawful.{named_field}
use Rattle.x509_der.proofs.Words.{any_header_field}
use Rattle.x509_der.specs.Laws.{IsMarkedField, Anywhere}
use Rattle.x509_der.proofs.Marking.{hard_marked, hard_plain, named_marked_field, element_marked_field, implicit_bits_marked, implicit_bits_plain}
use Rattle.x509_certs.specs.declared.unique_identifier.UniqueIdentifier.{UniqueIdentifier}

abbrev pub bits_of_uid : UniqueIdentifier → Bits
bits_of_uid u = bit_string u.0

-- [n] IMPLICIT UniqueIdentifier OPTIONAL, absent where the header of another stands
unfoldable pub unique_id : ℕ → X509Error → Field (Option Bits)
unique_id n why = hard (named why any_header) (is_implicit n) (named why (implicit_bits n))

unfoldable pub issuer_uid : Field (Option Bits)
issuer_uid = unique_id 1 x509.InvalidIssuerUID

unfoldable pub subject_uid : Field (Option Bits)
subject_uid = unique_id 2 x509.InvalidSubjectUID

abbrev pub uid_heads : Option Bits → ℕ
uid_heads uid = option_heads (λ _. 1) uid

-- What a step over a unique identifier promises; where it is refused, nothing more is tried.
pub record ReadsUniqueId {L : Type 0} (plan : Field (Option Bits)) (more : ℕ → L → L) (fields : Fields L) (old new : ℕ) (result : Result (Fields L × Option UniqueIdentifier) (Refused X509Error L)) : Type 0 where
  pub reads : GivesAt (λ x. (next_of x.0, option_view bits_of_uid x.1)) plan more (next_of fields) (outer_of fields) result
  pub outer : IfOk result (λ x. outer_of x.0 ≡ outer_of fields)
  pub marks : IfOk result (λ x. plain_in x.0 ≡ plain_in fields)
  pub grows : old ≤ new
  pub same : IfErr result (λ _. new ≡ old)
  pub count : IfOk result (λ x. new + 8 * length (next_of x.0) ≤ old + 8 * length (next_of fields))
  pub least : IfOk result (λ x. AddsAtLeast (uid_heads (option_view bits_of_uid x.1) + min 1 (length (next_of x.0)) - min 1 (length (next_of fields))) old new)

pub unique_id_laws : (n : ℕ) (why : X509Error) → IsMarkedField is_x509_memory Anywhere (unique_id n why)
unfolding unique_id
unique_id_laws n why =
    hard_marked is_x509_memory Anywhere (named why any_header) (is_implicit n) (named why (implicit_bits n))
    (named_field is_ber_memory is_x509_memory why any_header any_header_field)
    (named_marked_field is_ber_memory is_x509_memory Anywhere why (implicit_bits n) (element_marked_field is_ber_memory Anywhere (implicit_bits n) (implicit_bits_marked n)))

pub issuer_uid_plain : (place : List ℕ) → issuer_uid.marks place ≡ true
unfolding issuer_uid unique_id
issuer_uid_plain = hard_plain (named x509.InvalidIssuerUID any_header) (is_implicit 1) (named x509.InvalidIssuerUID (implicit_bits 1)) (implicit_bits_plain 1)

pub subject_uid_plain : (place : List ℕ) → subject_uid.marks place ≡ true
unfolding subject_uid unique_id
subject_uid_plain = hard_plain (named x509.InvalidSubjectUID any_header) (is_implicit 2) (named x509.InvalidSubjectUID (implicit_bits 2)) (implicit_bits_plain 2)

pub issuer_uid_laws : IsMarkedField is_x509_memory Anywhere issuer_uid
unfolding issuer_uid
issuer_uid_laws = unique_id_laws 1 x509.InvalidIssuerUID

pub subject_uid_laws : IsMarkedField is_x509_memory Anywhere subject_uid
unfolding subject_uid
subject_uid_laws = unique_id_laws 2 x509.InvalidSubjectUID
