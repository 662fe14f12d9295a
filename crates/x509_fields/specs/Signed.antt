-- A part that is signed, the algorithm of the signature and its bits: a certificate (RFC 5280, 4.1.1), a list of revoked certificates
-- (RFC 5280, 5.1.1), or a request (RFC 2986, 4.2).
use Rattle.std.specs.Prelude.{ℕ, List, [], ◌≡◌, ◌+◌, ◌++◌}
use Rattle.x509_der.specs.Elements.{Elem}
use Rattle.x509_der.specs.Laws.{IsMarkedField, IsMarkedElement, IsMarkedContents, Anywhere, AtEnd}
use Rattle.x509_der.specs.Leaves.{bits, sequence as sequence_contents}
use Rattle.x509_der.specs.Plan.{◌>>=◌, got, give, with_bytes}
use Rattle.x509_der.specs.Primitives.{Bits, bit_string}
use Rattle.x509_der.specs.Promises.{IsFront}
use Rattle.x509_der.specs.Reading.{strict, Element}
use Rattle.x509_der.proofs.Marking.{marked, with_bytes_marked, container_marked, then_marked_field, element_marked_field}
use Rattle.x509_fields.specs.declared.error.X509Error.TheVariants as x509
use Rattle.x509_fields.specs.Algorithm.{algorithm, algorithm_laws, Algorithm, algorithm_of, algorithm_heads}
use Rattle.x509_fields.specs.Errors.{is_x509_memory}
use Rattle.x509_fields.specs.Fields.{Field, named, lifted, sequence, as_x509_renames}
use Rattle.x509_fields.specs.declared.signed.Signed.{Signed as Read}

-- ---- the value

-- raw is the whole element, tbs the part that is signed
pub record Signed (A : Type 0) : Type 0 where
  pub raw : List ℕ
  pub tbs : A
  pub signature_algorithm : Algorithm
  pub signature_value : Bits

abbrev pub signed_of : {T A : Type 0} → (T → A) → Read T → Signed A
signed_of view s = record {
  raw = s.raw.now;
  tbs = view s.tbs;
  signature_algorithm = algorithm_of s.signature_algorithm;
  signature_value = bit_string s.signature_value;
}

-- ---- the grammar

-- signatureValue BIT STRING (RFC 5280, 4.1.1.3)
unfoldable pub signature_value : Field Bits
signature_value = named x509.InvalidSignatureValue bits

-- SEQUENCE { the part, signatureAlgorithm AlgorithmIdentifier, signatureValue BIT STRING }
unfoldable pub signed : {A : Type 0} → Field A → Field (Signed A)
signed part = with_bytes (sequence do
  tbs ← part
  algorithm ← algorithm
  signature ← signature_value
  give (λ raw. record { raw = raw; tbs = tbs; signature_algorithm = algorithm; signature_value = signature }))

-- ---- windows

-- the part's window is the first element in the contents of the whole
pub record HoldsPart {A : Type 0} (window : A → List ℕ) (s : Signed A) : Type 0 where
  pub element : Element
  pub behind : List ℕ
  pub whole : Elem strict s.raw element []
  pub contents : element.contents ≡ window s.tbs ++ behind

-- A front of the bytes was read as this value. The value's window is that front; the part's window is that part, whole, and read again
-- by its own reader it gives an equal value and no rest.
pub record SignedStands {A : Type 0} (part : Field A) (window : A → List ℕ) (bytes : List ℕ) (s : Signed A) (rest : List ℕ) : Type 0 where
  pub reading : (signed part).read bytes ≡ got s rest
  pub whole_window : bytes ≡ s.raw ++ rest
  pub signed_part : HoldsPart window s
  pub reads_back : IsFront part (window s.tbs) s.tbs []

-- ---- heads

abbrev pub signed_heads : {A : Type 0} → (A → ℕ) → Signed A → ℕ
signed_heads heads s = 1 + heads s.tbs + algorithm_heads s.signature_algorithm + 1

-- ---- laws

pub signature_value_laws : IsMarkedElement is_x509_memory signature_value
unfolding signature_value
signature_value_laws = search marked

-- what stands behind the part
abbrev signature : {A : Type 0} → A → Field (List ℕ → Signed A)
signature tbs = do
  algorithm ← algorithm
  signature ← signature_value
  give (λ raw. record { raw = raw; tbs = tbs; signature_algorithm = algorithm; signature_value = signature })

signature_laws : {A : Type 0} (tbs : A) → IsMarkedField is_x509_memory AtEnd (signature tbs)
signature_laws tbs = search (marked, algorithm_laws, signature_value_laws) depth 40

abbrev signed_fields : {A : Type 0} → Field A → Field (List ℕ → Signed A)
signed_fields part = part >>= λ tbs. signature tbs

signed_fields_laws : {A : Type 0} (part : Field A) → IsMarkedElement is_x509_memory part → IsMarkedField is_x509_memory AtEnd (signed_fields part)
signed_fields_laws part laws =
    then_marked_field is_x509_memory AtEnd part (λ a. signature a) (element_marked_field is_x509_memory Anywhere part laws) (λ a. signature_laws a)

contents_laws : IsMarkedContents is_x509_memory (lifted sequence_contents)
contents_laws = search (marked, as_x509_renames)

pub signed_laws : {A : Type 0} (part : Field A) → IsMarkedElement is_x509_memory part → IsMarkedElement is_x509_memory (signed part)
unfolding signed
signed_laws part laws =
    with_bytes_marked is_x509_memory (sequence (signed_fields part))
    (container_marked is_x509_memory (lifted sequence_contents) (signed_fields part) contents_laws (signed_fields_laws part laws))
