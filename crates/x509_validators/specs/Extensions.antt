-- What is wrong with extensions (RFC 5280, 4.2).
use Rattle.std.specs.Prelude.{ℕ, Bool, true, not, ◌&&◌, ◌==◌, List, [], ◌∷◌, ◌++◌, map, codes}
use Rattle.std.specs.Bool.{beq}
use Rattle.std.specs.List.{flat_map, list_all}
use Rattle.std.specs.Option.{is_some}
use Rattle.x509_general_names.specs.AuthorityKeyIdentifier.{AuthorityKeyIdentifierValue}
use Rattle.x509_values.specs.Policies.{PolicyValue}
use Rattle.x509_extensions.specs.Extension.{Extension}
use Rattle.x509_extensions.specs.Parsed.{Parsed, AuthorityKeyIdentifier, CertificatePolicies, KeyUsage, SubjectAlternativeName}
use Rattle.x509_validators.specs.Message.{Message}
use Rattle.x509_validators.specs.AlternativeNames.{names_warnings}
use Rattle.x509_validators.specs.Duplicates.{repeat_errors, all_distinct}
use Rattle.x509_validators.specs.Rules.{Row, error_where, told, warning_where}

-- its issuer and its serial stand together (4.2.1.1)
abbrev pub has_one : AuthorityKeyIdentifierValue → Bool
has_one a = not (beq (is_some a.issuer) (is_some a.serial))

-- of an authority key identifier, which must not be critical (4.2.1.1)
abbrev pub key_identifier_rules : Bool → AuthorityKeyIdentifierValue → List Row
key_identifier_rules critical a =
    error_where critical (codes "Extension AKI MUST NOT be critical, but is")
    ∷ warning_where (has_one a) (codes "AKI: only one of Issuer and Serial is present") ∷ []

-- a policy must not stand twice (4.2.1.4)
abbrev pub policy_ids : List PolicyValue → List (List ℕ)
policy_ids policies = map (λ p. p.policy_id) policies

unfoldable pub policy_errors : List PolicyValue → List Message
policy_errors policies = repeat_errors (codes "Certificate Policies: duplicate policy ") (policy_ids policies)

-- at least one bit of a key usage must be set (4.2.1.3)
abbrev pub usage_rules : ℕ → List Row
usage_rules flags = error_where (flags == 0) (codes "KeyUsage: all flags are set to 0") ∷ []

-- by what the value of an extension says, which may be critical
unfoldable pub value_messages : Bool → Parsed → List Message
value_messages critical (AuthorityKeyIdentifier a) = told (key_identifier_rules critical a)
value_messages critical (CertificatePolicies policies) = policy_errors policies
value_messages critical (KeyUsage flags) = told (usage_rules flags)
value_messages critical (SubjectAlternativeName names) = names_warnings names
value_messages critical _ = []

unfoldable pub is_sound_value : Parsed → Bool
is_sound_value (CertificatePolicies policies) = all_distinct (policy_ids policies)
is_sound_value _ = true

abbrev pub extension_messages : Extension → List Message
extension_messages e = value_messages e.critical e.parsed

abbrev pub is_sound_extension : Extension → Bool
is_sound_extension e = is_sound_value e.parsed

abbrev pub extension_ids : List Extension → List (List ℕ)
extension_ids extensions = map (λ e. e.oid) extensions

-- an extension must not stand twice (4.2)
unfoldable pub extension_errors : List Extension → List Message
extension_errors extensions = repeat_errors (codes "Duplicate extension ") (extension_ids extensions)

unfoldable pub extensions_messages : List Extension → List Message
extensions_messages extensions = extension_errors extensions ++ flat_map extension_messages extensions

unfoldable pub are_sound : List Extension → Bool
are_sound extensions = all_distinct (extension_ids extensions) && list_all is_sound_extension extensions
