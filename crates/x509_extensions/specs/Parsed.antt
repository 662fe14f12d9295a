-- What the value of an extension says (RFC 5280, 4.2, 5.2 and 5.3; RFC 6962, 3.3).
use Rattle.std.specs.Prelude.{◌≡◌, ◌≤◌, ◌+◌, ◌*◌, refl, ℕ, List, length, IfOk, map, Bool, true, false, Option, Some, None, Result, Ok, Err}
use Rattle.x509_der.specs.declared.error.BerError.{BerError}
use Rattle.x509_der.specs.declared.error.BerError.TheVariants as ber
use Rattle.x509_der.specs.declared.error.Err.{Err as Refusal}
use Rattle.x509_der.specs.Laws.{IsBytes, IsMarkedField, IsMarkedElement, Anywhere}
use Rattle.x509_der.specs.Oid.{oid_bytes}
use Rattle.x509_der.specs.Plan.{Outcome, ◌>>=◌, give, PlainInside, marks_value}
use Rattle.x509_der.specs.Promises.{Answers, IsFront, refusal_by}
use Rattle.x509_der.specs.Unsigned.{unsigned_bytes}
use Rattle.x509_der.proofs.Marked.{value_told}
use Rattle.x509_der.proofs.Marking.{marked}
use Rattle.x509_fields.specs.declared.error.X509Error.{X509Error}
use Rattle.x509_fields.specs.declared.error.X509Error.TheVariants as x509
use Rattle.x509_fields.specs.Errors.{is_x509_memory}
use Rattle.x509_fields.specs.Fields.{Field, lifted, as_x509_renames}
use Rattle.x509_fields.specs.Times.{Time, time_of}
use Rattle.x509_general_names.specs.KeyIdentifier.{key_identifier_of, key_identifier, key_identifier_laws}
use Rattle.x509_values.specs.KeyUsage.{key_usage_of, key_usage, key_usage_laws}
use Rattle.x509_general_names.specs.AlternativeNames.{subject_names_of, issuer_names_of, general_names}
use Rattle.x509_general_names.specs.AlternativeNamesLaws.{general_names_laws}
use Rattle.x509_general_names.specs.GeneralName.{GeneralNameValue}
use Rattle.x509_values.specs.BasicConstraints.{basic_constraints_of, basic_constraints, basic_constraints_laws, BasicConstraintsValue}
use Rattle.x509_values.specs.CrlNumber.{crl_number, crl_number_laws}
use Rattle.x509_values.specs.ReasonCode.{reason_code, reason_code_laws}
use Rattle.x509_values.specs.InvalidityDate.{invalidity_date, invalidity_date_laws}
use Rattle.x509_general_names.specs.IssuingDistributionPoint.{IssuingPoint, issuing_point_of, issuing_distribution_point, issuing_distribution_point_laws}
use Rattle.x509_general_names.specs.NameConstraints.{Constraints, constraints_of, name_constraints, name_constraints_laws}
use Rattle.x509_general_names.specs.DistributionPoints.{Point, points_of, crl_distribution_points, crl_distribution_points_laws}
use Rattle.x509_values.specs.Policies.{PolicyValue, policy_of, policies, policies_laws}
use Rattle.x509_values.specs.PolicyMapping.{PolicyMappingValue, policy_mappings_of, policy_mappings, policy_mappings_laws}
use Rattle.x509_general_names.specs.AuthorityKeyIdentifier.{AuthorityKeyIdentifierValue, authority_key_identifier_of, authority_key_identifier, authority_key_identifier_laws}
use Rattle.x509_values.specs.PolicyConstraints.{PolicyConstraintsValue, policy_constraints_of, policy_constraints, policy_constraints_laws}
use Rattle.x509_values.specs.ExtendedKeyUsage.{Usages, usages_of, extended_key_usage, extended_key_usage_laws}
use Rattle.x509_values.specs.InhibitAnyPolicy.{inhibit_any_policy, inhibit_any_policy_laws}
use Rattle.x509_general_names.specs.InformationAccess.{Access, authority_accesses_of, subject_accesses_of, information_access, information_access_laws}
use Rattle.x509_values.specs.TimestampList.{timestamps, timestamps_laws}
use Rattle.x509_values.specs.NsCertType.{ns_cert_type_of, ns_cert_type, ns_cert_type_laws}
use Rattle.x509_values.specs.NsComment.{ns_comment}
use Rattle.x509_values.specs.Timestamp.{TimestampValue, timestamp_of}
use Rattle.x509_values.proofs.Comments.{ns_comment_laws}
use Rattle.x509_extensions.specs.Kinds.{kind_of}
use Rattle.x509_extensions.specs.declared.kind.Kind.{Kind}
use Rattle.x509_extensions.specs.declared.kind.Kind.TheVariants as kinds
use Rattle.x509_extensions.specs.declared.parsed.ParsedExtension.{ParsedExtension}
use Rattle.x509_extensions.specs.declared.parsed.ParsedExtension.TheVariants as variants

-- ---- the value

-- what the value of an extension says
pub data Parsed : Type 0 where
  -- no reader is known for the identifier
  Unsupported : List ℕ → Parsed
  -- the value can't be read, for this reason
  Failed : Refusal BerError → Parsed
  -- the value wasn't looked at
  Unparsed : Parsed
  SubjectKeyIdentifier : List ℕ → Parsed
  KeyUsage : ℕ → Parsed
  SubjectAlternativeName : List GeneralNameValue → Parsed
  IssuerAlternativeName : List GeneralNameValue → Parsed
  BasicConstraints : BasicConstraintsValue → Parsed
  CRLNumber : List ℕ → Parsed
  ReasonCode : ℕ → Parsed
  InvalidityDate : Time → Parsed
  IssuingDistributionPoint : IssuingPoint → Parsed
  NameConstraints : Constraints → Parsed
  CRLDistributionPoints : List Point → Parsed
  CertificatePolicies : List PolicyValue → Parsed
  PolicyMappings : List PolicyMappingValue → Parsed
  AuthorityKeyIdentifier : AuthorityKeyIdentifierValue → Parsed
  PolicyConstraints : PolicyConstraintsValue → Parsed
  ExtendedKeyUsage : Usages → Parsed
  InhibitAnyPolicy : ℕ → Parsed
  AuthorityInfoAccess : List Access → Parsed
  SubjectInfoAccess : List Access → Parsed
  SCT : List TimestampValue → Parsed
  NSCertType : ℕ → Parsed
  NsCertComment : List ℕ → Parsed

abbrev pub parsed_of : ParsedExtension → Parsed
parsed_of (variants.UnsupportedExtension oid) = Unsupported (oid_bytes oid)
parsed_of (variants.ParseError error) = Failed error
parsed_of variants.Unparsed = Unparsed
parsed_of (variants.SubjectKeyIdentifier v) = SubjectKeyIdentifier (key_identifier_of v)
parsed_of (variants.KeyUsage v) = KeyUsage (key_usage_of v)
parsed_of (variants.SubjectAlternativeName v) = SubjectAlternativeName (subject_names_of v)
parsed_of (variants.IssuerAlternativeName v) = IssuerAlternativeName (issuer_names_of v)
parsed_of (variants.BasicConstraints v) = BasicConstraints (basic_constraints_of v)
parsed_of (variants.CRLNumber v) = CRLNumber (unsigned_bytes v)
parsed_of (variants.ReasonCode v) = ReasonCode (v.0)
parsed_of (variants.InvalidityDate v) = InvalidityDate (time_of v)
parsed_of (variants.IssuingDistributionPoint v) = IssuingDistributionPoint (issuing_point_of v)
parsed_of (variants.NameConstraints v) = NameConstraints (constraints_of v)
parsed_of (variants.CRLDistributionPoints v) = CRLDistributionPoints (points_of v)
parsed_of (variants.CertificatePolicies v) = CertificatePolicies (map policy_of v)
parsed_of (variants.PolicyMappings v) = PolicyMappings (policy_mappings_of v)
parsed_of (variants.AuthorityKeyIdentifier v) = AuthorityKeyIdentifier (authority_key_identifier_of v)
parsed_of (variants.PolicyConstraints v) = PolicyConstraints (policy_constraints_of v)
parsed_of (variants.ExtendedKeyUsage v) = ExtendedKeyUsage (usages_of v)
parsed_of (variants.InhibitAnyPolicy v) = InhibitAnyPolicy (v.skip_certs)
parsed_of (variants.AuthorityInfoAccess v) = AuthorityInfoAccess (authority_accesses_of v)
parsed_of (variants.SubjectInfoAccess v) = SubjectInfoAccess (subject_accesses_of v)
parsed_of (variants.SCT v) = SCT (map timestamp_of v)
parsed_of (variants.NSCertType v) = NSCertType (ns_cert_type_of v)
parsed_of (variants.NsCertComment v) = NsCertComment (v.now)

abbrev pub is_unsupported : Parsed → Bool
is_unsupported (Unsupported id) = true
is_unsupported _ = false

-- why a value can't be read
abbrev pub error_in : Parsed → Option (Refusal BerError)
error_in (Failed error) = Some error
error_in _ = None

-- ---- the table

-- a value, and what is said of it
abbrev pub made : {A : Type 0} → (A → Parsed) → Field A → Field Parsed
made make p = p >>= λ a. give (make a)

-- what each value is read by
abbrev pub row : Kind → Field Parsed
row kinds.SubjectKeyIdentifier = made (λ v. SubjectKeyIdentifier v) key_identifier
row kinds.KeyUsage = made (λ v. KeyUsage v) key_usage
row kinds.SubjectAlternativeName = made (λ v. SubjectAlternativeName v) general_names
row kinds.IssuerAlternativeName = made (λ v. IssuerAlternativeName v) general_names
row kinds.BasicConstraints = made (λ v. BasicConstraints v) basic_constraints
row kinds.CRLNumber = made (λ v. CRLNumber v) crl_number
row kinds.ReasonCode = made (λ v. ReasonCode v) reason_code
row kinds.InvalidityDate = made (λ v. InvalidityDate v) invalidity_date
row kinds.IssuingDistributionPoint = made (λ v. IssuingDistributionPoint v) issuing_distribution_point
row kinds.NameConstraints = made (λ v. NameConstraints v) name_constraints
row kinds.CRLDistributionPoints = made (λ v. CRLDistributionPoints v) crl_distribution_points
row kinds.CertificatePolicies = made (λ v. CertificatePolicies v) policies
row kinds.PolicyMappings = made (λ v. PolicyMappings v) policy_mappings
row kinds.AuthorityKeyIdentifier = made (λ v. AuthorityKeyIdentifier v) authority_key_identifier
row kinds.PolicyConstraints = made (λ v. PolicyConstraints v) policy_constraints
row kinds.ExtendedKeyUsage = made (λ v. ExtendedKeyUsage v) extended_key_usage
row kinds.InhibitAnyPolicy = made (λ v. InhibitAnyPolicy v) inhibit_any_policy
row kinds.AuthorityInfoAccess = made (λ v. AuthorityInfoAccess v) information_access
row kinds.SubjectInfoAccess = made (λ v. SubjectInfoAccess v) information_access
row kinds.SCT = made (λ v. SCT v) (lifted timestamps)
row kinds.NSCertType = made (λ v. NSCertType v) ns_cert_type
row kinds.NsCertComment = made (λ v. NsCertComment v) ns_comment

-- the refusal of a value, which stands for one element
abbrev pub ber_in : X509Error → BerError
ber_in (x509.Der kind) = kind
ber_in (x509.NomError kind) = ber.NomError kind
ber_in x509.OutOfMemory = ber.OutOfMemory
ber_in _ = ber.BerValueError

-- what stands at the front, whatever is behind it
abbrev pub only_value : {F A : Type 0} → Outcome F A → Result A F
only_value (Ok x) = Ok x.1
only_value (Err r) = Err r

-- What a reader of a value gives: the value at the front of the bytes, whether it stands plainly with nothing behind it, and at most
-- eight tries for each byte.
pub record ReadsValue {A X : Type 0} (takes_memory : Bool) (view : X → A) (plan : Field A) (bytes : List ℕ) (old new : ℕ) (result : Result (X × Bool) (Refusal X509Error)) : Type 0 where
  pub reads : Answers is_x509_memory takes_memory (λ x. view x.0) result (only_value (plan.read bytes))
  pub marks : IfOk result (λ x. x.1 ≡ marks_value plan bytes)
  pub grows : old ≤ new
  pub count : new ≤ old + 8 * length bytes

-- what is read says what it is; what can't be read says why
abbrev pub said : Result Parsed (Refusal X509Error) → Parsed
said (Ok p) = p
said (Err r) = Failed (refusal_by ber_in r)

abbrev pub parsed_by : Option Kind → List ℕ → List ℕ → Parsed
parsed_by None id value = Unsupported id
parsed_by (Some kind) id value = said (only_value ((row kind).read value))

-- What the value bytes of an extension with this identifier say: what stands at their front, whatever is behind it.
unfoldable pub parsed_value : List ℕ → List ℕ → Parsed
parsed_value id value = parsed_by (kind_of id) id value

-- ---- what is said plainly

abbrev pub PlainBy : Option Kind → List ℕ → Type 0
PlainBy None value = Unit {0}
PlainBy (Some kind) value = PlainInside (row kind) value

-- Where these value bytes say something, they say it plainly, and nothing stands behind it. A value that has no reader, or that can't
-- be read, uses no lenient rule.
unfoldable pub PlainValue : List ℕ → List ℕ → Type 0
PlainValue id value = PlainBy (kind_of id) value

abbrev pub marks_by : Option Kind → List ℕ → Bool
marks_by None value = true
marks_by (Some kind) value = marks_value (row kind) value

-- whether they do, as their reader tells
unfoldable pub value_marks : List ℕ → List ℕ → Bool
value_marks id value = marks_by (kind_of id) value

-- ---- laws

pub sct_laws : IsMarkedElement is_x509_memory (lifted timestamps)
sct_laws = search (marked, as_x509_renames, timestamps_laws) depth 20

pub row_laws : (kind : Kind) → IsMarkedField is_x509_memory Anywhere (row kind)
row_laws kinds.SubjectKeyIdentifier = search (marked, key_identifier_laws) depth 20
row_laws kinds.KeyUsage = search (marked, key_usage_laws) depth 20
row_laws kinds.SubjectAlternativeName = search (marked, general_names_laws) depth 20
row_laws kinds.IssuerAlternativeName = search (marked, general_names_laws) depth 20
row_laws kinds.BasicConstraints = search (marked, basic_constraints_laws) depth 20
row_laws kinds.CRLNumber = search (marked, crl_number_laws) depth 20
row_laws kinds.ReasonCode = search (marked, reason_code_laws) depth 20
row_laws kinds.InvalidityDate = search (marked, invalidity_date_laws) depth 20
row_laws kinds.IssuingDistributionPoint = search (marked, issuing_distribution_point_laws) depth 20
row_laws kinds.NameConstraints = search (marked, name_constraints_laws) depth 20
row_laws kinds.CRLDistributionPoints = search (marked, crl_distribution_points_laws) depth 20
row_laws kinds.CertificatePolicies = search (marked, policies_laws) depth 20
row_laws kinds.PolicyMappings = search (marked, policy_mappings_laws) depth 20
row_laws kinds.AuthorityKeyIdentifier = search (marked, authority_key_identifier_laws) depth 20
row_laws kinds.PolicyConstraints = search (marked, policy_constraints_laws) depth 20
row_laws kinds.ExtendedKeyUsage = search (marked, extended_key_usage_laws) depth 20
row_laws kinds.InhibitAnyPolicy = search (marked, inhibit_any_policy_laws) depth 20
row_laws kinds.AuthorityInfoAccess = search (marked, information_access_laws) depth 20
row_laws kinds.SubjectInfoAccess = search (marked, information_access_laws) depth 20
row_laws kinds.SCT = search (marked, sct_laws) depth 20
row_laws kinds.NSCertType = search (marked, ns_cert_type_laws) depth 20
row_laws kinds.NsCertComment = search (marked, ns_comment_laws) depth 20

told_by : (known : Option Kind) (value : List ℕ) → IsBytes value → ((marks_by known value ≡ true) → PlainBy known value) × (PlainBy known value → marks_by known value ≡ true)
told_by None value k = (λ m. tt, λ h. refl)
told_by (Some kind) value k = let laws = row_laws kind in value_told (row kind) laws.field.agrees laws.marks value k

pub value_told_plain : (id value : List ℕ) → IsBytes value → ((value_marks id value ≡ true) → PlainValue id value) × (PlainValue id value → value_marks id value ≡ true)
unfolding PlainValue value_marks
value_told_plain id value k = told_by (kind_of id) value k

-- ---- what an identifier's values are

-- those of a type's grammar, and what is said of them
pub record IsRow {A : Type 0} (id : List ℕ) (plan : Field A) (make : A → Parsed) : Type 0 where
  pub accepted : (value : List ℕ) (a : A) (rest : List ℕ) → IsBytes value → IsFront plan value a rest → parsed_value id value ≡ make a
  pub only : (value : List ℕ) (a : A) → IsBytes value → parsed_value id value ≡ make a → (rest : List ℕ) × IsFront plan value a rest
  pub failed : (value : List ℕ) (r : Refusal X509Error) (left : ℕ) → IsBytes value → plan.Refuses value r left → parsed_value id value ≡ Failed (refusal_by ber_in r)

-- The same of a plan that may take in all the bytes of its place.
pub record IsWholeRow {A : Type 0} (id : List ℕ) (plan : Field A) (make : A → Parsed) : Type 0 where
  pub accepted : (value : List ℕ) (a : A) (rest : List ℕ) → IsBytes value → plan.Is value a rest → parsed_value id value ≡ make a
  pub only : (value : List ℕ) (a : A) → IsBytes value → parsed_value id value ≡ make a → (rest : List ℕ) × plan.Is value a rest
  pub failed : (value : List ℕ) (r : Refusal X509Error) (left : ℕ) → IsBytes value → plan.Refuses value r left → parsed_value id value ≡ Failed (refusal_by ber_in r)
