-- ExtKeyUsageSyntax ::= SEQUENCE SIZE (1..MAX) OF KeyPurposeId
-- KeyPurposeId ::= OBJECT IDENTIFIER
-- (RFC 5280, 4.2.1.12)
use Rattle.std.specs.Prelude.{◌≡◌, ℕ, ◌+◌, Bool, not, List, [], ◌∷◌, length, map, drop, Ok, if◌then◌else◌}
use Rattle.std.specs.BTreeSet.{BTreeSet, contains}
use Rattle.std.specs.Cmp.Lexicographic.{slice_cmp}
use Rattle.std.specs.List.{list_any, filter}
use Rattle.std.specs.declared.cmp.Ordering.{Ordering}
use Rattle.std.specs.Ordering.{nat_cmp}
use Rattle.std.specs.Str.{bytes_eq}
use Rattle.x509_der.specs.declared.oid.Oid.{Oid}
use Rattle.x509_der.specs.declared.error.Err.{Err as Refusal}
use Rattle.x509_der.specs.declared.error.BerError.TheVariants as ber
use Rattle.x509_der.specs.Laws.{IsMarkedElement, IsMarkedField, AtEnd}
use Rattle.x509_der.specs.Leaves.{BerPlan, oid}
use Rattle.x509_der.specs.Oid.{oid_bytes}
use Rattle.x509_der.specs.Plan.{Outcome, got, members, mapped, run, to_end}
use Rattle.x509_der.specs.Promises.{is_ber_memory, ended_early}
use Rattle.x509_der.proofs.Marking.{marked, mapped_marked}
use Rattle.x509_fields.specs.declared.error.X509Error.{X509Error}
use Rattle.x509_fields.specs.Errors.{is_x509_memory}
use Rattle.x509_fields.specs.Fields.{Field, lifted, sequence, as_x509_renames}
use Rattle.x509_values.specs.declared.extended_key_usage.KeyPurpose.{KeyPurpose}
use Rattle.x509_values.specs.declared.extended_key_usage.ExtendedKeyUsage.{ExtendedKeyUsage}
use Rattle.x509_values.specs.declared.extended_key_usage.Flag.{Flag}
use Rattle.x509_values.specs.declared.extended_key_usage.Flag.TheVariants as flags

-- ---- key purposes, by their octets

-- 2.5.29.37.0
abbrev pub any_purpose : List ℕ
any_purpose = 0x55 ∷ 0x1d ∷ 0x25 ∷ 0x00 ∷ []

-- 1.3.6.1.5.5.7.3.n
abbrev pub purpose : ℕ → List ℕ
purpose n = 0x2b ∷ 0x06 ∷ 0x01 ∷ 0x05 ∷ 0x05 ∷ 0x07 ∷ 0x03 ∷ n ∷ []

-- those that have a flag of their own
abbrev pub named_purposes : List (List ℕ)
named_purposes = any_purpose ∷ purpose 1 ∷ purpose 2 ∷ purpose 3 ∷ purpose 4 ∷ purpose 8 ∷ purpose 9 ∷ []

abbrev pub octets_of : Flag → List ℕ
octets_of flags.Any = any_purpose
octets_of flags.ServerAuth = purpose 1
octets_of flags.ClientAuth = purpose 2
octets_of flags.CodeSigning = purpose 3
octets_of flags.EmailProtection = purpose 4
octets_of flags.TimeStamping = purpose 8
octets_of flags.OcspSigning = purpose 9

-- ---- the value

abbrev pub holds : List (List ℕ) → List ℕ → Bool
holds ids id = list_any (bytes_eq id) ids

-- identifiers in the order of their octets
abbrev pub oid_cmp : Oid → Oid → Ordering
oid_cmp a b = slice_cmp nat_cmp (oid_bytes a) (oid_bytes b)

-- each identifier once, in the order in which they are first seen
abbrev pub each_once : List (List ℕ) → List (List ℕ)
each_once [] = []
each_once (id ∷ ids) = id ∷ filter (λ other. not (bytes_eq other id)) (each_once ids)

pub record Usages : Type 0 where
  pub any : Bool
  pub server_auth : Bool
  pub client_auth : Bool
  pub code_signing : Bool
  pub email_protection : Bool
  pub time_stamping : Bool
  pub ocsp_signing : Bool
  pub other : List (List ℕ)

-- what a list of purposes says
unfoldable pub usages_in : List (List ℕ) → Usages
usages_in ids = record {
  any = holds ids any_purpose;
  server_auth = holds ids (purpose 1);
  client_auth = holds ids (purpose 2);
  code_signing = holds ids (purpose 3);
  email_protection = holds ids (purpose 4);
  time_stamping = holds ids (purpose 8);
  ocsp_signing = holds ids (purpose 9);
  other = each_once (filter (λ id. not (holds named_purposes id)) ids);
}

abbrev pub key_purpose_of : KeyPurpose → List ℕ
key_purpose_of p = oid_bytes p.id

abbrev pub usages_of : ExtendedKeyUsage → Usages
usages_of u = record {
  any = u.any;
  server_auth = u.server_auth;
  client_auth = u.client_auth;
  code_signing = u.code_signing;
  email_protection = u.email_protection;
  time_stamping = u.time_stamping;
  ocsp_signing = u.ocsp_signing;
  other = map oid_bytes u.other;
}

-- the set has the identifiers of a list behind its first
abbrev pub AreBehindFirst : List Oid → BTreeSet Oid → Type 0
AreBehindFirst list set = (id : Oid) → contains oid_cmp set id ≡ holds (map oid_bytes (drop 1 list)) (oid_bytes id)

-- ---- the grammar

unfoldable pub key_purpose : BerPlan (List ℕ)
key_purpose = oid

unfoldable pub key_purpose_run : BerPlan (List (List ℕ))
key_purpose_run = to_end (ended_early ber.NomError) (run key_purpose)

-- what the longest run of purposes says, and what stands behind it
abbrev pub said_at : List ℕ → Outcome (Refusal X509Error) Usages
said_at place = got (usages_in (members key_purpose place).1) (members key_purpose place).0

-- the identifiers, to the end; there may be none
unfoldable pub key_purposes : Field (List (List ℕ))
key_purposes = sequence (lifted key_purpose_run)

unfoldable pub extended_key_usage : Field Usages
extended_key_usage = mapped key_purposes (λ ids. Ok (usages_in ids))

-- ---- heads: a repeated identifier counts once

abbrev pub one_if : Bool → ℕ
one_if set = if set then 1 else 0

abbrev pub usages_heads : Usages → ℕ
usages_heads u =
    1 + one_if u.any + one_if u.server_auth + one_if u.client_auth + one_if u.code_signing + one_if u.email_protection
    + one_if u.time_stamping + one_if u.ocsp_signing + length u.other

-- ---- laws

pub key_purpose_laws : IsMarkedElement is_ber_memory key_purpose
unfolding key_purpose
key_purpose_laws = search marked

pub key_purpose_run_laws : IsMarkedField is_ber_memory AtEnd key_purpose_run
unfolding key_purpose_run
key_purpose_run_laws = search (marked, key_purpose_laws) depth 40

pub key_purposes_laws : IsMarkedElement is_x509_memory key_purposes
unfolding key_purposes
key_purposes_laws = search (marked, as_x509_renames, key_purpose_run_laws) depth 40

pub extended_key_usage_laws : IsMarkedElement is_x509_memory extended_key_usage
unfolding extended_key_usage
extended_key_usage_laws = mapped_marked is_x509_memory key_purposes _ key_purposes_laws (λ ids r e. absurd cc)
