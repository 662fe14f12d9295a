-- The names of fields, in the words of the standards' ASN.1 (RFC 5280, A.1 and A.2; RFC 2986, 4; RFC 8017, A.1.1).
use Rattle.std.specs.Prelude.{List, [], ◌∷◌, codes}
use Rattle.x509_elements.specs.declared.field.Stands.TheVariants.{Always, Each, Universal, Context, Number, Time}
use Rattle.x509_elements.specs.declared.part.Part.{Part}
use Rattle.x509_elements.specs.declared.part.Part.TheVariants as parts
use Rattle.x509_elements.specs.declared.value.ExtensionValue.{ExtensionValue}
use Rattle.x509_elements.specs.declared.value.ExtensionValue.TheVariants as values
use Rattle.x509_elements.specs.Fields.{Field, field}

-- the one member of an extension's value: under its own name, which is that of its identifier, what it is
abbrev pub value_field : ExtensionValue → Field
value_field values.SubjectKeyIdentifier = field (codes "subjectKeyIdentifier") Always parts.Whole
value_field values.KeyUsage = field (codes "keyUsage") Always parts.Whole
value_field values.SubjectAltName = field (codes "subjectAltName") Always parts.GeneralNames
value_field values.IssuerAltName = field (codes "issuerAltName") Always parts.GeneralNames
value_field values.BasicConstraints = field (codes "basicConstraints") Always parts.BasicConstraints
value_field values.CrlNumber = field (codes "cRLNumber") Always parts.Whole
value_field values.ReasonCode = field (codes "reasonCode") Always parts.Whole
value_field values.InvalidityDate = field (codes "invalidityDate") Always parts.Whole
value_field values.IssuingDistributionPoint = field (codes "issuingDistributionPoint") Always parts.IssuingDistributionPoint
value_field values.NameConstraints = field (codes "nameConstraints") Always parts.NameConstraints
value_field values.CrlDistributionPoints = field (codes "cRLDistributionPoints") Always parts.DistributionPoints
value_field values.CertificatePolicies = field (codes "certificatePolicies") Always parts.Policies
value_field values.PolicyMappings = field (codes "policyMappings") Always parts.PolicyMappings
value_field values.AuthorityKeyIdentifier = field (codes "authorityKeyIdentifier") Always parts.AuthorityKeyIdentifier
value_field values.PolicyConstraints = field (codes "policyConstraints") Always parts.PolicyConstraints
value_field values.ExtKeyUsage = field (codes "extKeyUsage") Always parts.Purposes
value_field values.InhibitAnyPolicy = field (codes "inhibitAnyPolicy") Always parts.Whole
value_field values.AuthorityInfoAccess = field (codes "authorityInfoAccess") Always parts.Accesses
value_field values.SubjectInfoAccess = field (codes "subjectInfoAccess") Always parts.Accesses
value_field values.TimestampList = field (codes "signedCertificateTimestampList") Always parts.Whole
value_field values.NsCertType = field (codes "nsCertType") Always parts.Whole
value_field values.NsComment = field (codes "nsComment") Always parts.Whole

-- What stands in an explicit tag, and the members of a list, have no name of their own. What wraps extensions, and the alternatives of a
-- point's name, are taken by their numbers, whatever their class (docs/GRAMMAR.md, "Lenient rules").
abbrev pub fields_of : Part → List Field
fields_of parts.Certificate =
    field (codes "tbsCertificate") Always parts.TbsCertificate ∷
    field (codes "signatureAlgorithm") Always parts.Algorithm ∷
    field (codes "signatureValue") Always parts.Whole ∷
    []
fields_of parts.TbsCertificate =
    field (codes "version") (Context 0) parts.Tagged ∷
    field (codes "serialNumber") Always parts.Serial ∷
    field (codes "signature") Always parts.Algorithm ∷
    field (codes "issuer") Always parts.Name ∷
    field (codes "validity") Always parts.Validity ∷
    field (codes "subject") Always parts.Name ∷
    field (codes "subjectPublicKeyInfo") Always parts.KeyInfo ∷
    field (codes "issuerUniqueID") (Context 1) parts.Whole ∷
    field (codes "subjectUniqueID") (Context 2) parts.Whole ∷
    field (codes "extensions") (Number 3) parts.TaggedExtensions ∷
    []
fields_of parts.Tagged = field [] Always parts.Whole ∷ []
fields_of parts.Algorithm =
    field (codes "algorithm") Always parts.Whole ∷
    field (codes "parameters") Always parts.Whole ∷
    []
fields_of parts.Name = field [] Each parts.RelativeName ∷ []
fields_of parts.RelativeName = field [] Each parts.NameAttribute ∷ []
fields_of parts.NameAttribute =
    field (codes "type") Always parts.Whole ∷
    field (codes "value") Always parts.Whole ∷
    []
fields_of parts.Validity =
    field (codes "notBefore") Always parts.Whole ∷
    field (codes "notAfter") Always parts.Whole ∷
    []
fields_of parts.KeyInfo =
    field (codes "algorithm") Always parts.KeyAlgorithm ∷
    field (codes "subjectPublicKey") Always parts.Told ∷
    []
fields_of parts.KeyAlgorithm =
    field (codes "algorithm") Always parts.Whole ∷
    field (codes "parameters") Always parts.Whole ∷
    []
fields_of parts.RsaKeyBits = field [] Always parts.RsaKey ∷ []
fields_of parts.RsaKey =
    field (codes "modulus") Always parts.Whole ∷
    field (codes "publicExponent") Always parts.Whole ∷
    []
fields_of parts.TaggedExtensions = field [] Always parts.Extensions ∷ []
fields_of parts.Extensions = field [] Each parts.Extension ∷ []
fields_of parts.Extension =
    field (codes "extnID") Always parts.ExtensionId ∷
    field (codes "critical") (Universal 1) parts.Critical ∷
    field (codes "extnValue") Always parts.Told ∷
    []
fields_of parts.ExtensionId = []
fields_of (parts.Value value) = value_field value ∷ []
fields_of parts.List =
    field (codes "tbsCertList") Always parts.TbsList ∷
    field (codes "signatureAlgorithm") Always parts.Algorithm ∷
    field (codes "signatureValue") Always parts.Whole ∷
    []
fields_of parts.TbsList =
    field (codes "version") (Universal 2) parts.Whole ∷
    field (codes "signature") Always parts.Algorithm ∷
    field (codes "issuer") Always parts.Name ∷
    field (codes "thisUpdate") Always parts.Whole ∷
    field (codes "nextUpdate") Time parts.Whole ∷
    field (codes "revokedCertificates") (Universal 16) parts.Revoked ∷
    field (codes "crlExtensions") (Number 0) parts.TaggedExtensions ∷
    []
fields_of parts.Revoked = field [] Each parts.Entry ∷ []
fields_of parts.Entry =
    field (codes "userCertificate") Always parts.Serial ∷
    field (codes "revocationDate") Always parts.Whole ∷
    field (codes "crlEntryExtensions") (Universal 16) parts.Extensions ∷
    []
fields_of parts.Request =
    field (codes "certificationRequestInfo") Always parts.RequestInfo ∷
    field (codes "signatureAlgorithm") Always parts.Algorithm ∷
    field (codes "signature") Always parts.Whole ∷
    []
fields_of parts.RequestInfo =
    field (codes "version") Always parts.Whole ∷
    field (codes "subject") Always parts.Name ∷
    field (codes "subjectPKInfo") Always parts.KeyInfo ∷
    field (codes "attributes") (Context 0) parts.Attributes ∷
    []
fields_of parts.Attributes = field [] Each parts.Attribute ∷ []
fields_of parts.Attribute =
    field (codes "type") Always parts.AttributeType ∷
    field (codes "values") Always parts.Told ∷
    []
fields_of parts.AttributeType = []
fields_of parts.Serial = []
fields_of parts.Critical = []
fields_of parts.Unread = []
fields_of parts.Values = field [] Each parts.Whole ∷ []
fields_of parts.RequestedExtensions = field [] Each parts.Extensions ∷ []
fields_of parts.Passwords = field [] Each parts.Whole ∷ []
fields_of parts.GeneralNames = field [] Each parts.GeneralName ∷ []
fields_of parts.GeneralName = []
fields_of parts.OtherName =
    field (codes "type-id") Always parts.Whole ∷
    field (codes "value") (Context 0) parts.Tagged ∷
    []
fields_of parts.TaggedName = field [] Always parts.Name ∷ []
fields_of parts.EdiPartyName =
    field (codes "nameAssigner") (Context 0) parts.Tagged ∷
    field (codes "partyName") (Context 1) parts.Tagged ∷
    []
fields_of parts.AuthorityKeyIdentifier =
    field (codes "keyIdentifier") (Context 0) parts.Whole ∷
    field (codes "authorityCertIssuer") (Context 1) parts.GeneralNames ∷
    field (codes "authorityCertSerialNumber") (Context 2) parts.Whole ∷
    []
fields_of parts.Policies = field [] Each parts.Policy ∷ []
fields_of parts.Policy =
    field (codes "policyIdentifier") Always parts.Whole ∷
    field (codes "policyQualifiers") (Universal 16) parts.Qualifiers ∷
    []
fields_of parts.Qualifiers = field [] Each parts.Qualifier ∷ []
fields_of parts.Qualifier =
    field (codes "policyQualifierId") Always parts.QualifierId ∷
    field (codes "qualifier") Always parts.Told ∷
    []
fields_of parts.QualifierId = []
fields_of parts.UserNotice =
    field (codes "noticeRef") (Universal 16) parts.NoticeReference ∷
    field (codes "explicitText") Always parts.Whole ∷
    []
fields_of parts.NoticeReference =
    field (codes "organization") Always parts.Whole ∷
    field (codes "noticeNumbers") Always parts.NoticeNumbers ∷
    []
fields_of parts.NoticeNumbers = field [] Each parts.Whole ∷ []
fields_of parts.PolicyMappings = field [] Each parts.PolicyMapping ∷ []
fields_of parts.PolicyMapping =
    field (codes "issuerDomainPolicy") Always parts.Whole ∷
    field (codes "subjectDomainPolicy") Always parts.Whole ∷
    []
fields_of parts.BasicConstraints =
    field (codes "cA") (Universal 1) parts.Whole ∷
    field (codes "pathLenConstraint") (Universal 2) parts.Whole ∷
    []
fields_of parts.NameConstraints =
    field (codes "permittedSubtrees") (Context 0) parts.Subtrees ∷
    field (codes "excludedSubtrees") (Context 1) parts.Subtrees ∷
    []
fields_of parts.Subtrees = field [] Each parts.Subtree ∷ []
fields_of parts.Subtree =
    field (codes "base") Always parts.GeneralName ∷
    field (codes "minimum") (Context 0) parts.Unread ∷
    field (codes "maximum") (Context 1) parts.Unread ∷
    []
fields_of parts.PolicyConstraints =
    field (codes "requireExplicitPolicy") (Context 0) parts.Whole ∷
    field (codes "inhibitPolicyMapping") (Context 1) parts.Whole ∷
    []
fields_of parts.Purposes = field [] Each parts.Whole ∷ []
fields_of parts.DistributionPoints = field [] Each parts.DistributionPoint ∷ []
fields_of parts.DistributionPoint =
    field (codes "distributionPoint") (Context 0) parts.DistributionPointName ∷
    field (codes "reasons") (Context 1) parts.Whole ∷
    field (codes "cRLIssuer") (Context 2) parts.GeneralNames ∷
    []
fields_of parts.DistributionPointName =
    field (codes "fullName") (Number 0) parts.FullName ∷
    field (codes "nameRelativeToCRLIssuer") (Number 1) parts.RelativeToIssuer ∷
    []
fields_of parts.FullName = field [] Each parts.GeneralName ∷ []
-- in a SET of its own, as its reader has it, or behind the header of the choice, as the standard's implicit tag has it
fields_of parts.RelativeToIssuer =
    field [] (Universal 17) parts.RelativeName ∷
    field [] Each parts.NameAttribute ∷
    []
fields_of parts.IssuingDistributionPoint =
    field (codes "distributionPoint") (Context 0) parts.DistributionPointName ∷
    field (codes "onlyContainsUserCerts") (Context 1) parts.Whole ∷
    field (codes "onlyContainsCACerts") (Context 2) parts.Whole ∷
    field (codes "onlySomeReasons") (Context 3) parts.Whole ∷
    field (codes "indirectCRL") (Context 4) parts.Whole ∷
    field (codes "onlyContainsAttributeCerts") (Context 5) parts.Whole ∷
    []
fields_of parts.Accesses = field [] Each parts.Access ∷ []
fields_of parts.Access =
    field (codes "accessMethod") Always parts.Whole ∷
    field (codes "accessLocation") Always parts.GeneralName ∷
    []
fields_of parts.Told = []
fields_of parts.Whole = []
fields_of parts.Unknown = []
