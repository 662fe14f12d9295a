-- Values of extensions as C sees them.
use Rattle.std.specs.Prelude.{◌≡◌, ℕ, ◌<◌, ◌≤◌, ◌⊎◌, List, [], length, map, slice_index_or}
use Rattle.x509_values.specs.BasicConstraints.{BasicConstraintsValue}
use Rattle.x509_values.specs.ExtendedKeyUsage.{Usages}
use Rattle.x509_values.specs.Policies.{PolicyQualifierValue, PolicyValue}
use Rattle.x509_c.specs.Flags.{flag}
use Rattle.x509_c.specs.Options.{is_there, there_or}
use Rattle.x509_c.specs.Rows.{RowsShow, numbered_from}
use Rattle.x509_c.specs.declared.octets.OctetsRow.{OctetsRow}
use Rattle.x509_c.specs.declared.values.BasicConstraintsRow.{BasicConstraintsRow}
use Rattle.x509_c.specs.declared.values.PolicyQualifierRow.{PolicyQualifierRow}
use Rattle.x509_c.specs.declared.values.PolicyRow.{PolicyRow}
use Rattle.x509_c.specs.declared.values.QualifierRow.{QualifierRow}
use Rattle.x509_c.specs.declared.values.UsagesRow.{UsagesRow}

abbrev pub AreOctets : OctetsRow → List ℕ → Type 0
AreOctets row octets = row.octets.now ≡ octets

pub record IsBasicConstraintsRow (row : BasicConstraintsRow) (constraints : BasicConstraintsValue) : Type 0 where
  pub ca : row.ca ≡ flag constraints.ca
  pub has_path_length : row.has_path_length ≡ is_there constraints.path_len_constraint
  pub path_length : row.path_length ≡ there_or 0 constraints.path_len_constraint

pub record IsUsagesRow (row : UsagesRow) (usages : Usages) : Type 0 where
  pub other_count : row.other_count ≡ length usages.other
  pub any : row.any ≡ flag usages.any
  pub server_auth : row.server_auth ≡ flag usages.server_auth
  pub client_auth : row.client_auth ≡ flag usages.client_auth
  pub code_signing : row.code_signing ≡ flag usages.code_signing
  pub email_protection : row.email_protection ≡ flag usages.email_protection
  pub time_stamping : row.time_stamping ≡ flag usages.time_stamping
  pub ocsp_signing : row.ocsp_signing ≡ flag usages.ocsp_signing

-- the uses, and those without a field as far as there are rows
pub record ShowsUsages (row : UsagesRow) (rows : List OctetsRow) (usages : Usages) : Type 0 where
  pub fields : IsUsagesRow row usages
  pub others : RowsShow AreOctets rows usages.other

-- the qualifiers of a policy, of which there may be none
abbrev pub qualifiers : PolicyValue → List PolicyQualifierValue
qualifiers policy = there_or [] policy.policy_qualifiers

pub record IsPolicyRow (row : PolicyRow) (policy : PolicyValue) : Type 0 where
  pub oid : row.oid.now ≡ policy.policy_id
  pub qualifier_count : row.qualifier_count ≡ length (qualifiers policy)

pub record IsQualifierRow (row : QualifierRow) (qualifier : PolicyQualifierValue) : Type 0 where
  pub oid : row.oid.now ≡ qualifier.policy_qualifier_id
  pub value : row.value.now ≡ qualifier.qualifier

-- the qualifiers of the policy at a position are counted, and shown as far as there are rows
pub record ShowsQualifiers (policies : List PolicyValue) (position : ℕ) (written : List QualifierRow) (told : ℕ) : Type 0 where
  pub within : position < length policies
  pub count : (none : PolicyValue) → told ≡ length (qualifiers (slice_index_or policies position none))
  pub rows : (none : PolicyValue) → RowsShow IsQualifierRow written (qualifiers (slice_index_or policies position none))

-- 0 and the qualifiers of the policy there, or 50
abbrev pub FindsQualifiers : List PolicyValue → ℕ → List QualifierRow → ℕ → ℕ → Type 0
FindsQualifiers policies position written told status =
    ((status ≡ 0) × ShowsQualifiers policies position written told) ⊎ ((status ≡ 50) × (length policies ≤ position))

-- a qualifier, and the position of its policy
pub record IsPolicyQualifierRow (row : PolicyQualifierRow) (placed : ℕ × PolicyQualifierValue) : Type 0 where
  pub oid : row.oid.now ≡ placed.1.policy_qualifier_id
  pub value : row.value.now ≡ placed.1.qualifier
  pub policy : row.policy ≡ placed.0

-- those of all policies in order, each with the position of its policy
abbrev pub policy_qualifiers : List PolicyValue → List (ℕ × PolicyQualifierValue)
policy_qualifiers policies = numbered_from 0 (map qualifiers policies)
