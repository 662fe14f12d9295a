-- What the look-ups of extensions answer.
use Rattle.std.specs.Prelude.{◌≡◌, ◌⊎◌, ℕ, Bool, true, false, not, ◌&&◌, List, [], ◌∷◌, ◌++◌, Option, Some, None, Result, Ok, Err, IfOk, IfErr}
use Rattle.std.specs.Borrow.{Bor}
use Rattle.std.specs.HashMap.{HashMap, get}
use Rattle.std.specs.List.{filter, find, list_any}
use Rattle.std.specs.Option.{option_copied, option_map}
use Rattle.std.specs.Str.{bytes_eq}
use Rattle.x509_der.specs.Oid.{oid_bytes}
use Rattle.x509_der.specs.declared.oid.Oid.{Oid}
use Rattle.x509_der.specs.declared.unsigned.UnsignedBytes.{UnsignedBytes}
use Rattle.x509_fields.specs.Groups.{oid_eq}
use Rattle.x509_fields.specs.declared.error.X509Error.{X509Error}
use Rattle.x509_fields.specs.declared.error.X509Error.TheVariants.{OutOfMemory, DuplicateExtensions, InvalidExtensions}
use Rattle.x509_fields.specs.declared.version.ReasonCode.{ReasonCode}
use Rattle.x509_fields.specs.declared.time.asn1_time.ASN1Time.{ASN1Time}
use Rattle.x509_extensions.specs.declared.extension.X509Extension.{X509Extension}
use Rattle.x509_extensions.specs.declared.parsed.ParsedExtension.{ParsedExtension}
use Rattle.x509_extensions.specs.declared.parsed.ParsedExtension.TheVariants as variants
use Rattle.x509_values.specs.declared.basic_constraints.BasicConstraints.{BasicConstraints}
use Rattle.x509_values.specs.declared.key_usage.KeyUsage.{KeyUsage}
use Rattle.x509_values.specs.declared.extended_key_usage.ExtendedKeyUsage.{ExtendedKeyUsage}
use Rattle.x509_values.specs.declared.policy_constraints.PolicyConstraints.{PolicyConstraints}
use Rattle.x509_values.specs.declared.inhibit_any_policy.InhibitAnyPolicy.{InhibitAnyPolicy}
use Rattle.x509_values.specs.declared.policy_mapping.PolicyMappings.{PolicyMappings}
use Rattle.x509_general_names.specs.declared.alternative_names.SubjectAlternativeName.{SubjectAlternativeName}
use Rattle.x509_general_names.specs.declared.name_constraints.NameConstraints.{NameConstraints}

-- whether the member has this identifier
unfoldable pub has_id : {X : Type 0} → (X → Oid) → List ℕ → X → Bool
has_id oid_of id x = bytes_eq (oid_bytes (oid_of x)) id

-- whether the extension has it
abbrev pub has_oid : List ℕ → X509Extension → Bool
has_oid id = has_id (λ x. x.oid) id

-- none, or the only one; two are refused
unfoldable pub only : List X509Extension → Result (Option X509Extension) X509Error
only [] = Ok None
only (x ∷ []) = Ok (Some x)
only (x ∷ y ∷ _) = Err DuplicateExtensions

-- the one with this identifier
abbrev pub unique_of : List ℕ → List X509Extension → Result (Option X509Extension) X509Error
unique_of id xs = only (filter (has_oid id) xs)

-- what the references point at
abbrev pub pointed : Result (Option (Bor X509Extension)) X509Error → Result (Option X509Extension) X509Error
pointed (Ok o) = Ok (option_copied o)
pointed (Err e) = Err e

-- no identifier of these stands before, nor twice
unfoldable pub distinct_after : {X : Type 0} → (X → Oid) → List X → List X → Bool
distinct_after oid_of before [] = true
distinct_after oid_of before (x ∷ xs) = not (list_any (has_id oid_of (oid_bytes (oid_of x))) before) && distinct_after oid_of (before ++ x ∷ []) xs

-- no identifier stands twice
abbrev pub distinct_by : {X : Type 0} → (X → Oid) → List X → Bool
distinct_by oid_of xs = distinct_after oid_of [] xs

-- What a map by identifiers promises: none stands twice, or that is the refusal; under each stands the first member with it, and under others none.
pub record MapsEach {X S : Type 0} (oid_of : X → Oid) (twice : X509Error) (members : List X) (result : Result (HashMap Oid (Bor X) S) X509Error) : Type 0 where
  pub distinct : IfOk result (λ _. distinct_by oid_of members ≡ true)
  pub entries : IfOk result (λ m. (q : Oid) → option_copied (get oid_eq m q) ≡ find (has_id oid_of (oid_bytes q)) members)
  pub refused : IfErr result (λ e. (e ≡ OutOfMemory) ⊎ ((e ≡ twice) × (distinct_by oid_of members ≡ false)))

-- the same of extensions
abbrev pub MapsExtensions : {S : Type 0} → List X509Extension → Result (HashMap Oid (Bor X509Extension) S) X509Error → Type 0
MapsExtensions extensions result = MapsEach (λ x. x.oid) DuplicateExtensions extensions result

-- ---- what the only one says

abbrev pub or_invalid : {V : Type 0} → Bool → Option V → Result (Option (Bool × V)) X509Error
or_invalid critical (Some v) = Ok (Some (critical, v))
or_invalid critical None = Err InvalidExtensions

-- whether it is critical, and its value as one of a type; one of another type is refused
abbrev pub typed : {V : Type 0} → (ParsedExtension → Option V) → Result (Option X509Extension) X509Error → Result (Option (Bool × V)) X509Error
typed value (Err e) = Err e
typed value (Ok None) = Ok None
typed value (Ok (Some x)) = or_invalid x.critical (value x.parsed_extension)

abbrev pub or_none : {V : Type 0} → Bool → Option V → Result (Option (Bool × V)) X509Error
or_none critical (Some v) = Ok (Some (critical, v))
or_none critical None = Ok None

-- the same, where one of another type is as good as none
abbrev pub typed_or_none : {V : Type 0} → (ParsedExtension → Option V) → Result (Option X509Extension) X509Error → Result (Option (Bool × V)) X509Error
typed_or_none value (Err e) = Err e
typed_or_none value (Ok None) = Ok None
typed_or_none value (Ok (Some x)) = or_none x.critical (value x.parsed_extension)

-- whether the first one is critical, and its value as one of a type; none where it is of another type
abbrev pub first_said : {V : Type 0} → (ParsedExtension → Option V) → Option X509Extension → Option (Bool × V)
first_said value None = None
first_said value (Some x) = option_map (λ v. (x.critical, v)) (value x.parsed_extension)

-- a value as one of a type

abbrev pub basic_constraints_in : ParsedExtension → Option BasicConstraints
basic_constraints_in (variants.BasicConstraints value) = Some value
basic_constraints_in _ = None

abbrev pub key_usage_in : ParsedExtension → Option KeyUsage
key_usage_in (variants.KeyUsage value) = Some value
key_usage_in _ = None

abbrev pub extended_key_usage_in : ParsedExtension → Option ExtendedKeyUsage
extended_key_usage_in (variants.ExtendedKeyUsage value) = Some value
extended_key_usage_in _ = None

abbrev pub policy_constraints_in : ParsedExtension → Option PolicyConstraints
policy_constraints_in (variants.PolicyConstraints value) = Some value
policy_constraints_in _ = None

abbrev pub inhibit_any_policy_in : ParsedExtension → Option InhibitAnyPolicy
inhibit_any_policy_in (variants.InhibitAnyPolicy value) = Some value
inhibit_any_policy_in _ = None

abbrev pub policy_mappings_in : ParsedExtension → Option PolicyMappings
policy_mappings_in (variants.PolicyMappings value) = Some value
policy_mappings_in _ = None

abbrev pub subject_names_in : ParsedExtension → Option SubjectAlternativeName
subject_names_in (variants.SubjectAlternativeName value) = Some value
subject_names_in _ = None

abbrev pub name_constraints_in : ParsedExtension → Option NameConstraints
name_constraints_in (variants.NameConstraints value) = Some value
name_constraints_in _ = None

abbrev pub crl_number_in : ParsedExtension → Option UnsignedBytes
crl_number_in (variants.CRLNumber value) = Some value
crl_number_in _ = None

abbrev pub reason_code_in : ParsedExtension → Option ReasonCode
reason_code_in (variants.ReasonCode value) = Some value
reason_code_in _ = None

abbrev pub invalidity_date_in : ParsedExtension → Option ASN1Time
invalidity_date_in (variants.InvalidityDate value) = Some value
invalidity_date_in _ = None
