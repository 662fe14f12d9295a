-- What a field is that an identifier before it tells.
use Rattle.std.specs.Prelude.{ℕ, List, [], ◌∷◌, Option, Some, None, if◌then◌else◌}
use Rattle.std.specs.List.{find}
use Rattle.std.specs.Option.{option_map}
use Rattle.std.specs.Str.{bytes_eq}
use Rattle.x509_elements.specs.declared.part.Part.{Part}
use Rattle.x509_elements.specs.declared.part.Part.TheVariants as parts
use Rattle.x509_elements.specs.declared.value.ExtensionValue.{ExtensionValue}
use Rattle.x509_elements.specs.declared.value.ExtensionValue.TheVariants as values
use Rattle.x509_elements.specs.Seen.{front_contents}

-- ---- values of extensions, by their identifiers

-- 2.5.29.n, as id-ce (RFC 5280, 4.2.1)
abbrev pub ce : ℕ → List ℕ
ce n = 0x55 ∷ 0x1d ∷ n ∷ []

-- 1.3.6.1.5.5.7.1.n, as id-pe (RFC 5280, 4.2.2)
abbrev pub pe : ℕ → List ℕ
pe n = 0x2b ∷ 0x06 ∷ 0x01 ∷ 0x05 ∷ 0x05 ∷ 0x07 ∷ 0x01 ∷ n ∷ []

-- 2.16.840.1.113730.1.n (Netscape certificate extensions)
abbrev pub ns : ℕ → List ℕ
ns n = 0x60 ∷ 0x86 ∷ 0x48 ∷ 0x01 ∷ 0x86 ∷ 0xf8 ∷ 0x42 ∷ 0x01 ∷ n ∷ []

-- 1.3.6.1.4.1.11129.2.4.2 (RFC 6962, 3.3)
abbrev pub timestamp_list : List ℕ
timestamp_list = 0x2b ∷ 0x06 ∷ 0x01 ∷ 0x04 ∷ 0x01 ∷ 0xd6 ∷ 0x79 ∷ 0x02 ∷ 0x04 ∷ 0x02 ∷ []

abbrev pub known : List (List ℕ × ExtensionValue)
known =
    (ce 14, values.SubjectKeyIdentifier) ∷
    (ce 15, values.KeyUsage) ∷
    (ce 17, values.SubjectAltName) ∷
    (ce 18, values.IssuerAltName) ∷
    (ce 19, values.BasicConstraints) ∷
    (ce 20, values.CrlNumber) ∷
    (ce 21, values.ReasonCode) ∷
    (ce 24, values.InvalidityDate) ∷
    (ce 28, values.IssuingDistributionPoint) ∷
    (ce 30, values.NameConstraints) ∷
    (ce 31, values.CrlDistributionPoints) ∷
    (ce 32, values.CertificatePolicies) ∷
    (ce 33, values.PolicyMappings) ∷
    (ce 35, values.AuthorityKeyIdentifier) ∷
    (ce 36, values.PolicyConstraints) ∷
    (ce 37, values.ExtKeyUsage) ∷
    (ce 54, values.InhibitAnyPolicy) ∷
    (pe 1, values.AuthorityInfoAccess) ∷
    (pe 11, values.SubjectInfoAccess) ∷
    (timestamp_list, values.TimestampList) ∷
    (ns 1, values.NsCertType) ∷
    (ns 13, values.NsComment) ∷
    []

-- none where the identifier has no row
unfoldable pub value_of : List ℕ → Option ExtensionValue
value_of id = option_map (λ r. r.1) (find (λ r. bytes_eq r.0 id) known)

abbrev pub value_part : Option ExtensionValue → Part
value_part (Some value) = parts.Value value
value_part None = parts.Whole

-- ---- other identifiers

-- rsaEncryption, 1.2.840.113549.1.1.1 (RFC 3279, 2.3.1)
abbrev pub rsa_encryption : List ℕ
rsa_encryption = 0x2a ∷ 0x86 ∷ 0x48 ∷ 0x86 ∷ 0xf7 ∷ 0x0d ∷ 0x01 ∷ 0x01 ∷ 0x01 ∷ []

-- extensionRequest, 1.2.840.113549.1.9.14 (RFC 2985, 5.4.2)
abbrev pub extension_request : List ℕ
extension_request = 0x2a ∷ 0x86 ∷ 0x48 ∷ 0x86 ∷ 0xf7 ∷ 0x0d ∷ 0x01 ∷ 0x09 ∷ 0x0e ∷ []

-- challengePassword, 1.2.840.113549.1.9.7 (RFC 2985, 5.4.1)
abbrev pub challenge_password : List ℕ
challenge_password = 0x2a ∷ 0x86 ∷ 0x48 ∷ 0x86 ∷ 0xf7 ∷ 0x0d ∷ 0x01 ∷ 0x09 ∷ 0x07 ∷ []

-- id-qt-unotice, 1.3.6.1.5.5.7.2.2 (RFC 5280, 4.2.1.4)
abbrev pub user_notice : List ℕ
user_notice = 0x2b ∷ 0x06 ∷ 0x01 ∷ 0x05 ∷ 0x05 ∷ 0x07 ∷ 0x02 ∷ 0x02 ∷ []

-- ---- what is told

-- what the contents of this part tell; another part tells nothing, and what was told before holds on
abbrev pub told_by : Part → List ℕ → Part → Part
told_by parts.ExtensionId contents before = value_part (value_of contents)
told_by parts.KeyAlgorithm contents before = if bytes_eq (front_contents contents) rsa_encryption then parts.RsaKeyBits else parts.Whole
told_by parts.AttributeType contents before =
    if bytes_eq contents extension_request then parts.RequestedExtensions else
    if bytes_eq contents challenge_password then parts.Passwords else parts.Values
told_by parts.QualifierId contents before = if bytes_eq contents user_notice then parts.UserNotice else parts.Whole
told_by _ contents before = before
