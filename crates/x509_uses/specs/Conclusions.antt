-- What a user concludes of an input and of what was read.
use Rattle.std.specs.Prelude.{◌≡◌, ℕ, ◌+◌, List, [], length, true, ◌≤ℤ◌}
use Rattle.x509_der.specs.Promises.{IsFront}
use Rattle.x509_der.specs.Words.{refusal_word}
use Rattle.x509_der.specs.declared.error.Err.{Err as Refusal}
use Rattle.x509_fields.specs.Errors.{x509_word}
use Rattle.x509_fields.specs.declared.error.X509Error.{X509Error}
use Rattle.x509_elements.specs.Paths.{deepest, path}
use Rattle.x509_elements.specs.declared.part.Part.TheVariants as parts
use Rattle.x509_fields.specs.Times.{instant_of}
use Rattle.x509_fields.specs.declared.time.asn1_time.ASN1Time.{ASN1Time}
use Rattle.x509_certs.specs.declared.validity.Validity.{Validity}
use Rattle.x509_certs.specs.Certificate.{Certificate, HoldsSignedPart, certificate, certificate_by}
use Rattle.x509_elements.specs.StrictRefusals.{StandsBy, first_use}
use Rattle.x509_elements.specs.Uses.{leniencies}
use Rattle.x509_elements.specs.declared.strict.StrictRefusal.{StrictRefusal}

-- The signed part of the certificate at the front of the input, up to this rest: the first element in the contents of the
-- certificate, whole.
abbrev pub IsSignedPartOf : List ℕ → List ℕ → List ℕ → Type 0
IsSignedPartOf input rest signed = (value : Certificate) × IsFront (certificate true) input value rest × HoldsSignedPart value
    × (value.tbs.raw ≡ signed)

-- one certificate stands at the front of the input, and the other at the front of what stands behind it
abbrev pub HoldsTwo : List ℕ → Certificate → Certificate → List ℕ → Type 0
HoldsTwo input first second rest = (behind : List ℕ) × IsFront (certificate true) input first behind
    × IsFront (certificate true) behind second rest

-- the instant of the time lies between both ends or is one of them
abbrev pub IsValidAt : Validity → ASN1Time → Type 0
IsValidAt validity time = (instant_of validity.not_before ≤ℤ instant_of time) × (instant_of time ≤ℤ instant_of validity.not_after)

-- a certificate stands at the front of the input
abbrev pub IsCertificate : List ℕ → Type 0
IsCertificate input = (value : Certificate) × (rest : List ℕ) × IsFront (certificate true) input value rest

-- the grammar of certificates refuses the input at this octet, for a reason with these words
abbrev pub IsFault : List ℕ → ℕ → List ℕ → Type 0
IsFault input at word = (why : Refusal X509Error) × (left : ℕ) × (certificate true).Refuses input why left × (at + left ≡ length input) × (word ≡ refusal_word x509_word why)

-- one that no lenient rule is needed for
abbrev pub IsPlainCertificate : List ℕ → Type 0
IsPlainCertificate input = (value : Certificate) × (rest : List ℕ) × IsFront (certificate_by true true) input value rest

-- the first lenient rule that is needed, or where the grammar refuses the input
abbrev pub IsStrictFault : List ℕ → StrictRefusal → Type 0
IsStrictFault input refusal = StandsBy (certificate true) input (first_use (leniencies parts.Certificate input)) refusal

-- the fields that lead to such an octet have these names
abbrev pub IsPathToFault : List ℕ → List ℕ → Type 0
IsPathToFault input names = (at : ℕ) × (word : List ℕ) × IsFault input at word × (names ≡ path deepest parts.Certificate input at [])
