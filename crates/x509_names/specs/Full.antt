-- Names in daily use beside those of the first table.
use Rattle.std.specs.Prelude.{ℕ, zero, suc, ◌+◌, ◌*◌, ◌/◌, ◌%◌, List, [], ◌∷◌, ◌++◌, Option, codes, flat_map, fold, if◌then◌else◌, ◌==◌}
use Rattle.std.specs.List.{find}
use Rattle.std.specs.Option.{option_map, option_or}
use Rattle.std.specs.Str.{bytes_eq}
use Rattle.x509_names.specs.Registry.{Entry, known}

-- ---- octets

-- the digits of n in base 128, at most k, before the octets, each with bit 8 set (X.690, 8.19.2)
abbrev pub leading : ℕ → ℕ → List ℕ → List ℕ
leading zero n octets = octets
leading (suc k) n octets = if n == 0 then octets else leading k (n / 128) ((128 + n % 128) ∷ octets)

-- the octets of a number below 2^28 (X.690, 8.19.2)
abbrev pub number_octets : ℕ → List ℕ
number_octets n = leading 3 (n / 128) (n % 128 ∷ [])

-- the octets of an identifier with these components (X.690, 8.19.4)
abbrev pub octets_of : List ℕ → List ℕ
octets_of (a ∷ b ∷ components) = number_octets (40 * a + b) ++ flat_map number_octets components
octets_of components = []

-- ---- rows

-- the octets of an identifier, its short name and its description
abbrev pub Named : Type 0
Named = List ℕ × List ℕ × List ℕ

abbrev pub named : List ℕ → List ℕ → List ℕ → Named
named components short_name description = (octets_of components, short_name, description)

-- ---- attribute types of names

abbrev pub attribute_types : List Named
attribute_types =
    -- RFC 4519, section 2
    named (2 ∷ 5 ∷ 4 ∷ 4 ∷ []) (codes "surname") (codes "Surname") ∷
    named (2 ∷ 5 ∷ 4 ∷ 5 ∷ []) (codes "serialNumber") (codes "Serial Number") ∷
    named (2 ∷ 5 ∷ 4 ∷ 9 ∷ []) (codes "streetAddress") (codes "Street Address") ∷
    named (2 ∷ 5 ∷ 4 ∷ 12 ∷ []) (codes "title") (codes "Title") ∷
    named (2 ∷ 5 ∷ 4 ∷ 13 ∷ []) (codes "description") (codes "Description") ∷
    named (2 ∷ 5 ∷ 4 ∷ 14 ∷ []) (codes "searchGuide") (codes "Search Guide") ∷
    named (2 ∷ 5 ∷ 4 ∷ 15 ∷ []) (codes "businessCategory") (codes "Business Category") ∷
    named (2 ∷ 5 ∷ 4 ∷ 16 ∷ []) (codes "postalAddress") (codes "Postal Address") ∷
    named (2 ∷ 5 ∷ 4 ∷ 17 ∷ []) (codes "postalCode") (codes "Postal Code") ∷
    named (2 ∷ 5 ∷ 4 ∷ 18 ∷ []) (codes "postOfficeBox") (codes "Post Office Box") ∷
    named (2 ∷ 5 ∷ 4 ∷ 19 ∷ []) (codes "physicalDeliveryOfficeName") (codes "Physical Delivery Office Name") ∷
    named (2 ∷ 5 ∷ 4 ∷ 20 ∷ []) (codes "telephoneNumber") (codes "Telephone Number") ∷
    named (2 ∷ 5 ∷ 4 ∷ 21 ∷ []) (codes "telexNumber") (codes "Telex Number") ∷
    named (2 ∷ 5 ∷ 4 ∷ 22 ∷ []) (codes "teletexTerminalIdentifier") (codes "Teletex Terminal Identifier") ∷
    named (2 ∷ 5 ∷ 4 ∷ 23 ∷ []) (codes "facsimileTelephoneNumber") (codes "Facsimile Telephone Number") ∷
    named (2 ∷ 5 ∷ 4 ∷ 24 ∷ []) (codes "x121Address") (codes "X.121 Address") ∷
    named (2 ∷ 5 ∷ 4 ∷ 25 ∷ []) (codes "internationalISDNNumber") (codes "International ISDN Number") ∷
    named (2 ∷ 5 ∷ 4 ∷ 26 ∷ []) (codes "registeredAddress") (codes "Registered Address") ∷
    named (2 ∷ 5 ∷ 4 ∷ 27 ∷ []) (codes "destinationIndicator") (codes "Destination Indicator") ∷
    named (2 ∷ 5 ∷ 4 ∷ 28 ∷ []) (codes "preferredDeliveryMethod") (codes "Preferred Delivery Method") ∷
    named (2 ∷ 5 ∷ 4 ∷ 31 ∷ []) (codes "member") (codes "Member") ∷
    named (2 ∷ 5 ∷ 4 ∷ 32 ∷ []) (codes "owner") (codes "Owner") ∷
    named (2 ∷ 5 ∷ 4 ∷ 33 ∷ []) (codes "roleOccupant") (codes "Role Occupant") ∷
    named (2 ∷ 5 ∷ 4 ∷ 34 ∷ []) (codes "seeAlso") (codes "See Also") ∷
    named (2 ∷ 5 ∷ 4 ∷ 35 ∷ []) (codes "userPassword") (codes "User Password") ∷
    named (2 ∷ 5 ∷ 4 ∷ 41 ∷ []) (codes "name") (codes "Name") ∷
    named (2 ∷ 5 ∷ 4 ∷ 42 ∷ []) (codes "givenName") (codes "Given Name") ∷
    named (2 ∷ 5 ∷ 4 ∷ 43 ∷ []) (codes "initials") (codes "Initials") ∷
    named (2 ∷ 5 ∷ 4 ∷ 44 ∷ []) (codes "generationQualifier") (codes "Generation Qualifier") ∷
    named (2 ∷ 5 ∷ 4 ∷ 45 ∷ []) (codes "x500UniqueIdentifier") (codes "X.500 Unique Identifier") ∷
    named (2 ∷ 5 ∷ 4 ∷ 46 ∷ []) (codes "dnQualifier") (codes "DN Qualifier") ∷
    named (2 ∷ 5 ∷ 4 ∷ 47 ∷ []) (codes "enhancedSearchGuide") (codes "Enhanced Search Guide") ∷
    named (2 ∷ 5 ∷ 4 ∷ 49 ∷ []) (codes "distinguishedName") (codes "Distinguished Name") ∷
    named (2 ∷ 5 ∷ 4 ∷ 50 ∷ []) (codes "uniqueMember") (codes "Unique Member") ∷
    named (2 ∷ 5 ∷ 4 ∷ 51 ∷ []) (codes "houseIdentifier") (codes "House Identifier") ∷
    named (0 ∷ 9 ∷ 2342 ∷ 19200300 ∷ 100 ∷ 1 ∷ 1 ∷ []) (codes "uid") (codes "User Identifier") ∷
    -- RFC 5280, appendix A.1
    named (2 ∷ 5 ∷ 4 ∷ 65 ∷ []) (codes "pseudonym") (codes "Pseudonym") ∷
    -- X.520, as ETSI EN 319 412-1 uses it
    named (2 ∷ 5 ∷ 4 ∷ 97 ∷ []) (codes "organizationIdentifier") (codes "Organization Identifier") ∷
    -- RFC 2985
    named (1 ∷ 2 ∷ 840 ∷ 113549 ∷ 1 ∷ 9 ∷ 2 ∷ []) (codes "unstructuredName") (codes "Unstructured Name") ∷
    named (1 ∷ 2 ∷ 840 ∷ 113549 ∷ 1 ∷ 9 ∷ 3 ∷ []) (codes "contentType") (codes "Content Type") ∷
    named (1 ∷ 2 ∷ 840 ∷ 113549 ∷ 1 ∷ 9 ∷ 4 ∷ []) (codes "messageDigest") (codes "Message Digest") ∷
    named (1 ∷ 2 ∷ 840 ∷ 113549 ∷ 1 ∷ 9 ∷ 5 ∷ []) (codes "signingTime") (codes "Signing Time") ∷
    named (1 ∷ 2 ∷ 840 ∷ 113549 ∷ 1 ∷ 9 ∷ 6 ∷ []) (codes "countersignature") (codes "Countersignature") ∷
    named (1 ∷ 2 ∷ 840 ∷ 113549 ∷ 1 ∷ 9 ∷ 8 ∷ []) (codes "unstructuredAddress") (codes "Unstructured Address") ∷
    -- CA/Browser Forum, guidelines for extended validation
    named (1 ∷ 3 ∷ 6 ∷ 1 ∷ 4 ∷ 1 ∷ 311 ∷ 60 ∷ 2 ∷ 1 ∷ 1 ∷ []) (codes "jurisdictionLocalityName") (codes "Jurisdiction Locality Name") ∷
    named (1 ∷ 3 ∷ 6 ∷ 1 ∷ 4 ∷ 1 ∷ 311 ∷ 60 ∷ 2 ∷ 1 ∷ 2 ∷ []) (codes "jurisdictionStateOrProvinceName")
    (codes "Jurisdiction State or Province Name") ∷
    named (1 ∷ 3 ∷ 6 ∷ 1 ∷ 4 ∷ 1 ∷ 311 ∷ 60 ∷ 2 ∷ 1 ∷ 3 ∷ []) (codes "jurisdictionCountryName") (codes "Jurisdiction Country Name") ∷
    []

-- ---- algorithms of signatures and keys

abbrev pub algorithms : List Named
algorithms =
    -- RFC 8017
    named (1 ∷ 2 ∷ 840 ∷ 113549 ∷ 1 ∷ 1 ∷ 2 ∷ []) (codes "md2WithRSA") (codes "RSA with MD2") ∷
    named (1 ∷ 2 ∷ 840 ∷ 113549 ∷ 1 ∷ 1 ∷ 4 ∷ []) (codes "md5WithRSA") (codes "RSA with MD5") ∷
    named (1 ∷ 2 ∷ 840 ∷ 113549 ∷ 1 ∷ 1 ∷ 15 ∷ []) (codes "sha512-224WithRSA") (codes "RSA with SHA-512/224") ∷
    named (1 ∷ 2 ∷ 840 ∷ 113549 ∷ 1 ∷ 1 ∷ 16 ∷ []) (codes "sha512-256WithRSA") (codes "RSA with SHA-512/256") ∷
    -- RFC 4055
    named (1 ∷ 2 ∷ 840 ∷ 113549 ∷ 1 ∷ 1 ∷ 12 ∷ []) (codes "sha384WithRSA") (codes "RSA with SHA-384") ∷
    named (1 ∷ 2 ∷ 840 ∷ 113549 ∷ 1 ∷ 1 ∷ 13 ∷ []) (codes "sha512WithRSA") (codes "RSA with SHA-512") ∷
    named (1 ∷ 2 ∷ 840 ∷ 113549 ∷ 1 ∷ 1 ∷ 14 ∷ []) (codes "sha224WithRSA") (codes "RSA with SHA-224") ∷
    -- RFC 3279
    named (1 ∷ 2 ∷ 840 ∷ 10040 ∷ 4 ∷ 3 ∷ []) (codes "dsaWithSHA1") (codes "DSA with SHA-1") ∷
    named (1 ∷ 2 ∷ 840 ∷ 10045 ∷ 4 ∷ 1 ∷ []) (codes "ecdsaWithSHA1") (codes "ECDSA with SHA-1") ∷
    named (1 ∷ 2 ∷ 840 ∷ 10046 ∷ 2 ∷ 1 ∷ []) (codes "dhpublicnumber") (codes "Diffie-Hellman key") ∷
    -- RFC 5758
    named (2 ∷ 16 ∷ 840 ∷ 1 ∷ 101 ∷ 3 ∷ 4 ∷ 3 ∷ 1 ∷ []) (codes "dsaWithSHA224") (codes "DSA with SHA-224") ∷
    named (2 ∷ 16 ∷ 840 ∷ 1 ∷ 101 ∷ 3 ∷ 4 ∷ 3 ∷ 2 ∷ []) (codes "dsaWithSHA256") (codes "DSA with SHA-256") ∷
    named (1 ∷ 2 ∷ 840 ∷ 10045 ∷ 4 ∷ 3 ∷ 1 ∷ []) (codes "ecdsaWithSHA224") (codes "ECDSA with SHA-224") ∷
    named (1 ∷ 2 ∷ 840 ∷ 10045 ∷ 4 ∷ 3 ∷ 3 ∷ []) (codes "ecdsaWithSHA384") (codes "ECDSA with SHA-384") ∷
    named (1 ∷ 2 ∷ 840 ∷ 10045 ∷ 4 ∷ 3 ∷ 4 ∷ []) (codes "ecdsaWithSHA512") (codes "ECDSA with SHA-512") ∷
    -- RFC 5480
    named (1 ∷ 3 ∷ 132 ∷ 1 ∷ 12 ∷ []) (codes "id-ecDH") (codes "Elliptic curve Diffie-Hellman key") ∷
    named (1 ∷ 3 ∷ 132 ∷ 1 ∷ 13 ∷ []) (codes "id-ecMQV") (codes "Elliptic curve Menezes-Qu-Vanstone key") ∷
    -- RFC 8410
    named (1 ∷ 3 ∷ 101 ∷ 110 ∷ []) (codes "x25519") (codes "X25519 key") ∷
    named (1 ∷ 3 ∷ 101 ∷ 111 ∷ []) (codes "x448") (codes "X448 key") ∷
    named (1 ∷ 3 ∷ 101 ∷ 113 ∷ []) (codes "ed448") (codes "Ed448") ∷
    -- RFC 8692
    named (1 ∷ 3 ∷ 6 ∷ 1 ∷ 5 ∷ 5 ∷ 7 ∷ 6 ∷ 30 ∷ []) (codes "id-RSASSA-PSS-SHAKE128") (codes "RSASSA-PSS with SHAKE128") ∷
    named (1 ∷ 3 ∷ 6 ∷ 1 ∷ 5 ∷ 5 ∷ 7 ∷ 6 ∷ 31 ∷ []) (codes "id-RSASSA-PSS-SHAKE256") (codes "RSASSA-PSS with SHAKE256") ∷
    named (1 ∷ 3 ∷ 6 ∷ 1 ∷ 5 ∷ 5 ∷ 7 ∷ 6 ∷ 32 ∷ []) (codes "ecdsaWithSHAKE128") (codes "ECDSA with SHAKE128") ∷
    named (1 ∷ 3 ∷ 6 ∷ 1 ∷ 5 ∷ 5 ∷ 7 ∷ 6 ∷ 33 ∷ []) (codes "ecdsaWithSHAKE256") (codes "ECDSA with SHAKE256") ∷
    -- RFC 9688
    named (2 ∷ 16 ∷ 840 ∷ 1 ∷ 101 ∷ 3 ∷ 4 ∷ 3 ∷ 9 ∷ []) (codes "ecdsaWithSHA3-224") (codes "ECDSA with SHA3-224") ∷
    named (2 ∷ 16 ∷ 840 ∷ 1 ∷ 101 ∷ 3 ∷ 4 ∷ 3 ∷ 10 ∷ []) (codes "ecdsaWithSHA3-256") (codes "ECDSA with SHA3-256") ∷
    named (2 ∷ 16 ∷ 840 ∷ 1 ∷ 101 ∷ 3 ∷ 4 ∷ 3 ∷ 11 ∷ []) (codes "ecdsaWithSHA3-384") (codes "ECDSA with SHA3-384") ∷
    named (2 ∷ 16 ∷ 840 ∷ 1 ∷ 101 ∷ 3 ∷ 4 ∷ 3 ∷ 12 ∷ []) (codes "ecdsaWithSHA3-512") (codes "ECDSA with SHA3-512") ∷
    named (2 ∷ 16 ∷ 840 ∷ 1 ∷ 101 ∷ 3 ∷ 4 ∷ 3 ∷ 13 ∷ []) (codes "sha3-224WithRSA") (codes "RSA with SHA3-224") ∷
    named (2 ∷ 16 ∷ 840 ∷ 1 ∷ 101 ∷ 3 ∷ 4 ∷ 3 ∷ 14 ∷ []) (codes "sha3-256WithRSA") (codes "RSA with SHA3-256") ∷
    named (2 ∷ 16 ∷ 840 ∷ 1 ∷ 101 ∷ 3 ∷ 4 ∷ 3 ∷ 15 ∷ []) (codes "sha3-384WithRSA") (codes "RSA with SHA3-384") ∷
    named (2 ∷ 16 ∷ 840 ∷ 1 ∷ 101 ∷ 3 ∷ 4 ∷ 3 ∷ 16 ∷ []) (codes "sha3-512WithRSA") (codes "RSA with SHA3-512") ∷
    []

-- ---- digests

abbrev pub digests : List Named
digests =
    -- RFC 3279
    named (1 ∷ 2 ∷ 840 ∷ 113549 ∷ 2 ∷ 2 ∷ []) (codes "md2") (codes "MD2") ∷
    named (1 ∷ 2 ∷ 840 ∷ 113549 ∷ 2 ∷ 5 ∷ []) (codes "md5") (codes "MD5") ∷
    -- RFC 4055
    named (2 ∷ 16 ∷ 840 ∷ 1 ∷ 101 ∷ 3 ∷ 4 ∷ 2 ∷ 1 ∷ []) (codes "sha256") (codes "SHA-256") ∷
    named (2 ∷ 16 ∷ 840 ∷ 1 ∷ 101 ∷ 3 ∷ 4 ∷ 2 ∷ 2 ∷ []) (codes "sha384") (codes "SHA-384") ∷
    named (2 ∷ 16 ∷ 840 ∷ 1 ∷ 101 ∷ 3 ∷ 4 ∷ 2 ∷ 3 ∷ []) (codes "sha512") (codes "SHA-512") ∷
    named (2 ∷ 16 ∷ 840 ∷ 1 ∷ 101 ∷ 3 ∷ 4 ∷ 2 ∷ 4 ∷ []) (codes "sha224") (codes "SHA-224") ∷
    -- RFC 8017
    named (2 ∷ 16 ∷ 840 ∷ 1 ∷ 101 ∷ 3 ∷ 4 ∷ 2 ∷ 5 ∷ []) (codes "sha512-224") (codes "SHA-512/224") ∷
    named (2 ∷ 16 ∷ 840 ∷ 1 ∷ 101 ∷ 3 ∷ 4 ∷ 2 ∷ 6 ∷ []) (codes "sha512-256") (codes "SHA-512/256") ∷
    -- RFC 9688
    named (2 ∷ 16 ∷ 840 ∷ 1 ∷ 101 ∷ 3 ∷ 4 ∷ 2 ∷ 7 ∷ []) (codes "sha3-224") (codes "SHA3-224") ∷
    named (2 ∷ 16 ∷ 840 ∷ 1 ∷ 101 ∷ 3 ∷ 4 ∷ 2 ∷ 8 ∷ []) (codes "sha3-256") (codes "SHA3-256") ∷
    named (2 ∷ 16 ∷ 840 ∷ 1 ∷ 101 ∷ 3 ∷ 4 ∷ 2 ∷ 9 ∷ []) (codes "sha3-384") (codes "SHA3-384") ∷
    named (2 ∷ 16 ∷ 840 ∷ 1 ∷ 101 ∷ 3 ∷ 4 ∷ 2 ∷ 10 ∷ []) (codes "sha3-512") (codes "SHA3-512") ∷
    -- RFC 8702
    named (2 ∷ 16 ∷ 840 ∷ 1 ∷ 101 ∷ 3 ∷ 4 ∷ 2 ∷ 11 ∷ []) (codes "shake128") (codes "SHAKE128") ∷
    named (2 ∷ 16 ∷ 840 ∷ 1 ∷ 101 ∷ 3 ∷ 4 ∷ 2 ∷ 12 ∷ []) (codes "shake256") (codes "SHAKE256") ∷
    []

-- ---- elliptic curves

abbrev pub curves : List Named
curves =
    -- RFC 5480, section 2.1.1.1
    named (1 ∷ 2 ∷ 840 ∷ 10045 ∷ 3 ∷ 1 ∷ 1 ∷ []) (codes "secp192r1") (codes "NIST P-192") ∷
    named (1 ∷ 2 ∷ 840 ∷ 10045 ∷ 3 ∷ 1 ∷ 7 ∷ []) (codes "secp256r1") (codes "NIST P-256") ∷
    named (1 ∷ 3 ∷ 132 ∷ 0 ∷ 1 ∷ []) (codes "sect163k1") (codes "NIST K-163") ∷
    named (1 ∷ 3 ∷ 132 ∷ 0 ∷ 15 ∷ []) (codes "sect163r2") (codes "NIST B-163") ∷
    named (1 ∷ 3 ∷ 132 ∷ 0 ∷ 16 ∷ []) (codes "sect283k1") (codes "NIST K-283") ∷
    named (1 ∷ 3 ∷ 132 ∷ 0 ∷ 17 ∷ []) (codes "sect283r1") (codes "NIST B-283") ∷
    named (1 ∷ 3 ∷ 132 ∷ 0 ∷ 26 ∷ []) (codes "sect233k1") (codes "NIST K-233") ∷
    named (1 ∷ 3 ∷ 132 ∷ 0 ∷ 27 ∷ []) (codes "sect233r1") (codes "NIST B-233") ∷
    named (1 ∷ 3 ∷ 132 ∷ 0 ∷ 33 ∷ []) (codes "secp224r1") (codes "NIST P-224") ∷
    named (1 ∷ 3 ∷ 132 ∷ 0 ∷ 34 ∷ []) (codes "secp384r1") (codes "NIST P-384") ∷
    named (1 ∷ 3 ∷ 132 ∷ 0 ∷ 35 ∷ []) (codes "secp521r1") (codes "NIST P-521") ∷
    named (1 ∷ 3 ∷ 132 ∷ 0 ∷ 36 ∷ []) (codes "sect409k1") (codes "NIST K-409") ∷
    named (1 ∷ 3 ∷ 132 ∷ 0 ∷ 37 ∷ []) (codes "sect409r1") (codes "NIST B-409") ∷
    named (1 ∷ 3 ∷ 132 ∷ 0 ∷ 38 ∷ []) (codes "sect571k1") (codes "NIST K-571") ∷
    named (1 ∷ 3 ∷ 132 ∷ 0 ∷ 39 ∷ []) (codes "sect571r1") (codes "NIST B-571") ∷
    -- SEC 2
    named (1 ∷ 3 ∷ 132 ∷ 0 ∷ 10 ∷ []) (codes "secp256k1") (codes "Koblitz curve of 256 bits") ∷
    -- RFC 5639
    named (1 ∷ 3 ∷ 36 ∷ 3 ∷ 3 ∷ 2 ∷ 8 ∷ 1 ∷ 1 ∷ 7 ∷ []) (codes "brainpoolP256r1") (codes "Brainpool P-256") ∷
    named (1 ∷ 3 ∷ 36 ∷ 3 ∷ 3 ∷ 2 ∷ 8 ∷ 1 ∷ 1 ∷ 11 ∷ []) (codes "brainpoolP384r1") (codes "Brainpool P-384") ∷
    named (1 ∷ 3 ∷ 36 ∷ 3 ∷ 3 ∷ 2 ∷ 8 ∷ 1 ∷ 1 ∷ 13 ∷ []) (codes "brainpoolP512r1") (codes "Brainpool P-512") ∷
    []

-- ---- purposes of keys

abbrev pub purposes : List Named
purposes =
    -- RFC 5280, section 4.2.1.12
    named (2 ∷ 5 ∷ 29 ∷ 37 ∷ 0 ∷ []) (codes "anyExtendedKeyUsage") (codes "Any Extended Key Usage") ∷
    named (1 ∷ 3 ∷ 6 ∷ 1 ∷ 5 ∷ 5 ∷ 7 ∷ 3 ∷ 1 ∷ []) (codes "serverAuth") (codes "TLS Server Authentication") ∷
    named (1 ∷ 3 ∷ 6 ∷ 1 ∷ 5 ∷ 5 ∷ 7 ∷ 3 ∷ 2 ∷ []) (codes "clientAuth") (codes "TLS Client Authentication") ∷
    named (1 ∷ 3 ∷ 6 ∷ 1 ∷ 5 ∷ 5 ∷ 7 ∷ 3 ∷ 3 ∷ []) (codes "codeSigning") (codes "Code Signing") ∷
    named (1 ∷ 3 ∷ 6 ∷ 1 ∷ 5 ∷ 5 ∷ 7 ∷ 3 ∷ 4 ∷ []) (codes "emailProtection") (codes "E-mail Protection") ∷
    named (1 ∷ 3 ∷ 6 ∷ 1 ∷ 5 ∷ 5 ∷ 7 ∷ 3 ∷ 8 ∷ []) (codes "timeStamping") (codes "Time Stamping") ∷
    named (1 ∷ 3 ∷ 6 ∷ 1 ∷ 5 ∷ 5 ∷ 7 ∷ 3 ∷ 9 ∷ []) (codes "OCSPSigning") (codes "OCSP Signing") ∷
    -- RFC 2459
    named (1 ∷ 3 ∷ 6 ∷ 1 ∷ 5 ∷ 5 ∷ 7 ∷ 3 ∷ 5 ∷ []) (codes "ipsecEndSystem") (codes "IPsec End System") ∷
    named (1 ∷ 3 ∷ 6 ∷ 1 ∷ 5 ∷ 5 ∷ 7 ∷ 3 ∷ 6 ∷ []) (codes "ipsecTunnel") (codes "IPsec Tunnel") ∷
    named (1 ∷ 3 ∷ 6 ∷ 1 ∷ 5 ∷ 5 ∷ 7 ∷ 3 ∷ 7 ∷ []) (codes "ipsecUser") (codes "IPsec User") ∷
    -- RFC 4334
    named (1 ∷ 3 ∷ 6 ∷ 1 ∷ 5 ∷ 5 ∷ 7 ∷ 3 ∷ 13 ∷ []) (codes "eapOverPPP") (codes "EAP over PPP") ∷
    named (1 ∷ 3 ∷ 6 ∷ 1 ∷ 5 ∷ 5 ∷ 7 ∷ 3 ∷ 14 ∷ []) (codes "eapOverLAN") (codes "EAP over LAN") ∷
    -- RFC 4945
    named (1 ∷ 3 ∷ 6 ∷ 1 ∷ 5 ∷ 5 ∷ 7 ∷ 3 ∷ 17 ∷ []) (codes "ipsecIKE") (codes "IPsec Internet Key Exchange") ∷
    -- RFC 5924
    named (1 ∷ 3 ∷ 6 ∷ 1 ∷ 5 ∷ 5 ∷ 7 ∷ 3 ∷ 20 ∷ []) (codes "sipDomain") (codes "SIP Domain") ∷
    -- RFC 6187
    named (1 ∷ 3 ∷ 6 ∷ 1 ∷ 5 ∷ 5 ∷ 7 ∷ 3 ∷ 21 ∷ []) (codes "secureShellClient") (codes "SSH Client") ∷
    named (1 ∷ 3 ∷ 6 ∷ 1 ∷ 5 ∷ 5 ∷ 7 ∷ 3 ∷ 22 ∷ []) (codes "secureShellServer") (codes "SSH Server") ∷
    -- RFC 8209
    named (1 ∷ 3 ∷ 6 ∷ 1 ∷ 5 ∷ 5 ∷ 7 ∷ 3 ∷ 30 ∷ []) (codes "bgpsec-router") (codes "BGPsec Router") ∷
    -- RFC 9336
    named (1 ∷ 3 ∷ 6 ∷ 1 ∷ 5 ∷ 5 ∷ 7 ∷ 3 ∷ 36 ∷ []) (codes "documentSigning") (codes "Document Signing") ∷
    -- RFC 4556
    named (1 ∷ 3 ∷ 6 ∷ 1 ∷ 5 ∷ 2 ∷ 3 ∷ 4 ∷ []) (codes "pkInitClientAuth") (codes "Kerberos Client Authentication") ∷
    named (1 ∷ 3 ∷ 6 ∷ 1 ∷ 5 ∷ 2 ∷ 3 ∷ 5 ∷ []) (codes "pkInitKDC") (codes "Kerberos Key Distribution Center") ∷
    -- RFC 6962, section 3.1
    named (1 ∷ 3 ∷ 6 ∷ 1 ∷ 4 ∷ 1 ∷ 11129 ∷ 2 ∷ 4 ∷ 4 ∷ []) (codes "ctPrecertSigning") (codes "CT Precertificate Signing") ∷
    -- Microsoft and Netscape
    named (1 ∷ 3 ∷ 6 ∷ 1 ∷ 4 ∷ 1 ∷ 311 ∷ 2 ∷ 1 ∷ 21 ∷ []) (codes "msCodeInd") (codes "Microsoft Individual Code Signing") ∷
    named (1 ∷ 3 ∷ 6 ∷ 1 ∷ 4 ∷ 1 ∷ 311 ∷ 2 ∷ 1 ∷ 22 ∷ []) (codes "msCodeCom") (codes "Microsoft Commercial Code Signing") ∷
    named (1 ∷ 3 ∷ 6 ∷ 1 ∷ 4 ∷ 1 ∷ 311 ∷ 10 ∷ 3 ∷ 1 ∷ []) (codes "msCTLSign") (codes "Microsoft Trust List Signing") ∷
    named (1 ∷ 3 ∷ 6 ∷ 1 ∷ 4 ∷ 1 ∷ 311 ∷ 10 ∷ 3 ∷ 3 ∷ []) (codes "msSGC") (codes "Microsoft Server Gated Crypto") ∷
    named (1 ∷ 3 ∷ 6 ∷ 1 ∷ 4 ∷ 1 ∷ 311 ∷ 10 ∷ 3 ∷ 4 ∷ []) (codes "msEFS") (codes "Microsoft Encrypted File System") ∷
    named (1 ∷ 3 ∷ 6 ∷ 1 ∷ 4 ∷ 1 ∷ 311 ∷ 20 ∷ 2 ∷ 2 ∷ []) (codes "msSmartcardLogin") (codes "Microsoft Smart Card Login") ∷
    named (2 ∷ 16 ∷ 840 ∷ 1 ∷ 113730 ∷ 4 ∷ 1 ∷ []) (codes "nsSGC") (codes "Netscape Server Gated Crypto") ∷
    []

-- ---- extensions

abbrev pub extensions : List Named
extensions =
    -- RFC 5280, sections 4.2 to 5.3
    named (2 ∷ 5 ∷ 29 ∷ 9 ∷ []) (codes "subjectDirectoryAttributes") (codes "Subject Directory Attributes") ∷
    named (2 ∷ 5 ∷ 29 ∷ 27 ∷ []) (codes "deltaCRLIndicator") (codes "Delta CRL Indicator") ∷
    named (2 ∷ 5 ∷ 29 ∷ 29 ∷ []) (codes "certificateIssuer") (codes "Certificate Issuer") ∷
    named (2 ∷ 5 ∷ 29 ∷ 46 ∷ []) (codes "freshestCRL") (codes "Freshest CRL") ∷
    -- RFC 3280
    named (2 ∷ 5 ∷ 29 ∷ 16 ∷ []) (codes "privateKeyUsagePeriod") (codes "Private Key Usage Period") ∷
    named (2 ∷ 5 ∷ 29 ∷ 23 ∷ []) (codes "holdInstructionCode") (codes "Hold Instruction Code") ∷
    -- RFC 5755
    named (2 ∷ 5 ∷ 29 ∷ 55 ∷ []) (codes "targetInformation") (codes "Target Information") ∷
    named (2 ∷ 5 ∷ 29 ∷ 56 ∷ []) (codes "noRevAvail") (codes "No Revocation Available") ∷
    -- RFC 3739
    named (1 ∷ 3 ∷ 6 ∷ 1 ∷ 5 ∷ 5 ∷ 7 ∷ 1 ∷ 2 ∷ []) (codes "biometricInfo") (codes "Biometric Information") ∷
    named (1 ∷ 3 ∷ 6 ∷ 1 ∷ 5 ∷ 5 ∷ 7 ∷ 1 ∷ 3 ∷ []) (codes "qcStatements") (codes "Qualified Certificate Statements") ∷
    -- RFC 3779
    named (1 ∷ 3 ∷ 6 ∷ 1 ∷ 5 ∷ 5 ∷ 7 ∷ 1 ∷ 7 ∷ []) (codes "ipAddrBlocks") (codes "IP Address Blocks") ∷
    named (1 ∷ 3 ∷ 6 ∷ 1 ∷ 5 ∷ 5 ∷ 7 ∷ 1 ∷ 8 ∷ []) (codes "autonomousSysIds") (codes "Autonomous System Identifiers") ∷
    -- RFC 9399
    named (1 ∷ 3 ∷ 6 ∷ 1 ∷ 5 ∷ 5 ∷ 7 ∷ 1 ∷ 12 ∷ []) (codes "logotype") (codes "Logotype") ∷
    -- RFC 3820
    named (1 ∷ 3 ∷ 6 ∷ 1 ∷ 5 ∷ 5 ∷ 7 ∷ 1 ∷ 14 ∷ []) (codes "proxyCertInfo") (codes "Proxy Certificate Information") ∷
    -- RFC 7633
    named (1 ∷ 3 ∷ 6 ∷ 1 ∷ 5 ∷ 5 ∷ 7 ∷ 1 ∷ 24 ∷ []) (codes "tlsfeature") (codes "TLS Feature") ∷
    -- RFC 8737
    named (1 ∷ 3 ∷ 6 ∷ 1 ∷ 5 ∷ 5 ∷ 7 ∷ 1 ∷ 31 ∷ []) (codes "acmeIdentifier") (codes "ACME Identifier") ∷
    -- RFC 6960
    named (1 ∷ 3 ∷ 6 ∷ 1 ∷ 5 ∷ 5 ∷ 7 ∷ 48 ∷ 1 ∷ 1 ∷ []) (codes "basicOCSPResponse") (codes "Basic OCSP Response") ∷
    named (1 ∷ 3 ∷ 6 ∷ 1 ∷ 5 ∷ 5 ∷ 7 ∷ 48 ∷ 1 ∷ 2 ∷ []) (codes "ocspNonce") (codes "OCSP Nonce") ∷
    named (1 ∷ 3 ∷ 6 ∷ 1 ∷ 5 ∷ 5 ∷ 7 ∷ 48 ∷ 1 ∷ 3 ∷ []) (codes "ocspCRL") (codes "OCSP CRL References") ∷
    named (1 ∷ 3 ∷ 6 ∷ 1 ∷ 5 ∷ 5 ∷ 7 ∷ 48 ∷ 1 ∷ 4 ∷ []) (codes "acceptableResponses") (codes "OCSP Acceptable Responses") ∷
    named (1 ∷ 3 ∷ 6 ∷ 1 ∷ 5 ∷ 5 ∷ 7 ∷ 48 ∷ 1 ∷ 5 ∷ []) (codes "ocspNoCheck") (codes "OCSP No Check") ∷
    named (1 ∷ 3 ∷ 6 ∷ 1 ∷ 5 ∷ 5 ∷ 7 ∷ 48 ∷ 1 ∷ 6 ∷ []) (codes "ocspArchiveCutoff") (codes "OCSP Archive Cutoff") ∷
    named (1 ∷ 3 ∷ 6 ∷ 1 ∷ 5 ∷ 5 ∷ 7 ∷ 48 ∷ 1 ∷ 7 ∷ []) (codes "ocspServiceLocator") (codes "OCSP Service Locator") ∷
    -- RFC 6962, sections 3.1 and 3.3
    named (1 ∷ 3 ∷ 6 ∷ 1 ∷ 4 ∷ 1 ∷ 11129 ∷ 2 ∷ 4 ∷ 3 ∷ []) (codes "ctPoison") (codes "CT Precertificate Poison") ∷
    named (1 ∷ 3 ∷ 6 ∷ 1 ∷ 4 ∷ 1 ∷ 11129 ∷ 2 ∷ 4 ∷ 5 ∷ []) (codes "ctOCSPSCTList") (codes "CT Timestamps of an OCSP Response") ∷
    -- Netscape Certificate Extensions
    named (2 ∷ 16 ∷ 840 ∷ 1 ∷ 113730 ∷ 1 ∷ 2 ∷ []) (codes "nsBaseUrl") (codes "Netscape Base URL") ∷
    named (2 ∷ 16 ∷ 840 ∷ 1 ∷ 113730 ∷ 1 ∷ 3 ∷ []) (codes "nsRevocationUrl") (codes "Netscape Revocation URL") ∷
    named (2 ∷ 16 ∷ 840 ∷ 1 ∷ 113730 ∷ 1 ∷ 4 ∷ []) (codes "nsCaRevocationUrl") (codes "Netscape CA Revocation URL") ∷
    named (2 ∷ 16 ∷ 840 ∷ 1 ∷ 113730 ∷ 1 ∷ 7 ∷ []) (codes "nsRenewalUrl") (codes "Netscape Renewal URL") ∷
    named (2 ∷ 16 ∷ 840 ∷ 1 ∷ 113730 ∷ 1 ∷ 8 ∷ []) (codes "nsCaPolicyUrl") (codes "Netscape CA Policy URL") ∷
    named (2 ∷ 16 ∷ 840 ∷ 1 ∷ 113730 ∷ 1 ∷ 12 ∷ []) (codes "nsSslServerName") (codes "Netscape SSL Server Name") ∷
    -- CA/Browser Forum, guidelines for extended validation
    named (2 ∷ 23 ∷ 140 ∷ 1 ∷ 31 ∷ []) (codes "cabfTorServiceDescriptor") (codes "Tor Service Descriptor") ∷
    named (2 ∷ 23 ∷ 140 ∷ 3 ∷ 1 ∷ []) (codes "cabfOrganizationIdentifier") (codes "CA/Browser Forum Organization Identifier") ∷
    []

-- ---- access methods, policies and their qualifiers

abbrev pub accesses_and_policies : List Named
accesses_and_policies =
    -- RFC 5280, section 4.2.2.2
    named (1 ∷ 3 ∷ 6 ∷ 1 ∷ 5 ∷ 5 ∷ 7 ∷ 48 ∷ 3 ∷ []) (codes "adTimeStamping") (codes "Time Stamping Service") ∷
    named (1 ∷ 3 ∷ 6 ∷ 1 ∷ 5 ∷ 5 ∷ 7 ∷ 48 ∷ 5 ∷ []) (codes "caRepository") (codes "CA Repository") ∷
    -- RFC 6487
    named (1 ∷ 3 ∷ 6 ∷ 1 ∷ 5 ∷ 5 ∷ 7 ∷ 48 ∷ 10 ∷ []) (codes "rpkiManifest") (codes "RPKI Manifest") ∷
    named (1 ∷ 3 ∷ 6 ∷ 1 ∷ 5 ∷ 5 ∷ 7 ∷ 48 ∷ 11 ∷ []) (codes "signedObject") (codes "RPKI Signed Object") ∷
    -- RFC 8182
    named (1 ∷ 3 ∷ 6 ∷ 1 ∷ 5 ∷ 5 ∷ 7 ∷ 48 ∷ 13 ∷ []) (codes "rpkiNotify") (codes "RPKI Update Notification") ∷
    -- RFC 5280, section 4.2.1.4
    named (2 ∷ 5 ∷ 29 ∷ 32 ∷ 0 ∷ []) (codes "anyPolicy") (codes "Any Policy") ∷
    named (1 ∷ 3 ∷ 6 ∷ 1 ∷ 5 ∷ 5 ∷ 7 ∷ 2 ∷ 1 ∷ []) (codes "cps") (codes "Certification Practice Statement") ∷
    named (1 ∷ 3 ∷ 6 ∷ 1 ∷ 5 ∷ 5 ∷ 7 ∷ 2 ∷ 2 ∷ []) (codes "unotice") (codes "User Notice") ∷
    -- CA/Browser Forum, policies of TLS server certificates
    named (2 ∷ 23 ∷ 140 ∷ 1 ∷ 1 ∷ []) (codes "extended-validation") (codes "Extended Validation") ∷
    named (2 ∷ 23 ∷ 140 ∷ 1 ∷ 2 ∷ 1 ∷ []) (codes "domain-validated") (codes "Domain Validated") ∷
    named (2 ∷ 23 ∷ 140 ∷ 1 ∷ 2 ∷ 2 ∷ []) (codes "organization-validated") (codes "Organization Validated") ∷
    named (2 ∷ 23 ∷ 140 ∷ 1 ∷ 2 ∷ 3 ∷ []) (codes "individual-validated") (codes "Individual Validated") ∷
    -- CA/Browser Forum, policies of code signing certificates
    named (2 ∷ 23 ∷ 140 ∷ 1 ∷ 3 ∷ []) (codes "ev-code-signing") (codes "Extended Validation Code Signing") ∷
    named (2 ∷ 23 ∷ 140 ∷ 1 ∷ 4 ∷ 1 ∷ []) (codes "code-signing") (codes "Code Signing Requirements") ∷
    named (2 ∷ 23 ∷ 140 ∷ 1 ∷ 4 ∷ 2 ∷ []) (codes "code-signing-timestamping") (codes "Code Signing Time Stamping") ∷
    -- CA/Browser Forum, policies of S/MIME certificates
    named (2 ∷ 23 ∷ 140 ∷ 1 ∷ 5 ∷ 1 ∷ 1 ∷ []) (codes "smime-mailbox-validated-legacy") (codes "S/MIME Mailbox Validated, Legacy") ∷
    named (2 ∷ 23 ∷ 140 ∷ 1 ∷ 5 ∷ 1 ∷ 2 ∷ []) (codes "smime-mailbox-validated-multipurpose") (codes "S/MIME Mailbox Validated, Multipurpose") ∷
    named (2 ∷ 23 ∷ 140 ∷ 1 ∷ 5 ∷ 1 ∷ 3 ∷ []) (codes "smime-mailbox-validated-strict") (codes "S/MIME Mailbox Validated, Strict") ∷
    named (2 ∷ 23 ∷ 140 ∷ 1 ∷ 5 ∷ 2 ∷ 1 ∷ []) (codes "smime-organization-validated-legacy") (codes "S/MIME Organization Validated, Legacy") ∷
    named (2 ∷ 23 ∷ 140 ∷ 1 ∷ 5 ∷ 2 ∷ 2 ∷ []) (codes "smime-organization-validated-multipurpose")
    (codes "S/MIME Organization Validated, Multipurpose") ∷
    named (2 ∷ 23 ∷ 140 ∷ 1 ∷ 5 ∷ 2 ∷ 3 ∷ []) (codes "smime-organization-validated-strict") (codes "S/MIME Organization Validated, Strict") ∷
    named (2 ∷ 23 ∷ 140 ∷ 1 ∷ 5 ∷ 3 ∷ 1 ∷ []) (codes "smime-sponsor-validated-legacy") (codes "S/MIME Sponsor Validated, Legacy") ∷
    named (2 ∷ 23 ∷ 140 ∷ 1 ∷ 5 ∷ 3 ∷ 2 ∷ []) (codes "smime-sponsor-validated-multipurpose") (codes "S/MIME Sponsor Validated, Multipurpose") ∷
    named (2 ∷ 23 ∷ 140 ∷ 1 ∷ 5 ∷ 3 ∷ 3 ∷ []) (codes "smime-sponsor-validated-strict") (codes "S/MIME Sponsor Validated, Strict") ∷
    named (2 ∷ 23 ∷ 140 ∷ 1 ∷ 5 ∷ 4 ∷ 1 ∷ []) (codes "smime-individual-validated-legacy") (codes "S/MIME Individual Validated, Legacy") ∷
    named (2 ∷ 23 ∷ 140 ∷ 1 ∷ 5 ∷ 4 ∷ 2 ∷ []) (codes "smime-individual-validated-multipurpose")
    (codes "S/MIME Individual Validated, Multipurpose") ∷
    named (2 ∷ 23 ∷ 140 ∷ 1 ∷ 5 ∷ 4 ∷ 3 ∷ []) (codes "smime-individual-validated-strict") (codes "S/MIME Individual Validated, Strict") ∷
    []

-- ---- all tables

abbrev pub tables : List (List Named)
tables = attribute_types ∷ algorithms ∷ digests ∷ curves ∷ purposes ∷ extensions ∷ accesses_and_policies ∷ []

-- what a row says of its identifier
abbrev pub named_entry : Named → Entry
named_entry r = record { short_name = r.1; description = r.2 }

-- the first row with these octets
abbrev pub named_in : List Named → List ℕ → Option Entry
named_in rows octets = option_map named_entry (find (λ r. bytes_eq r.0 octets) rows)

-- what is known of the identifier with these octets: what `oid_registry` knows, else what the first of the tables has
unfoldable pub known_in_full : List ℕ → Option Entry
known_in_full octets = fold (λ found rows. option_or found (named_in rows octets)) (known octets) tables
