-- A log's promise to publish a certificate (RFC 6962, 3.2), in the presentation language of TLS (RFC 5246, 4 and 4.7):
--
--     enum { v1(0), (255) } Version;
--
--     struct { opaque key_id[32]; } LogID;
--
--     opaque CtExtensions<0..2^16-1>;
--
--     struct {
--         Version sct_version;
--         LogID id;
--         uint64 timestamp;
--         CtExtensions extensions;
--         digitally-signed struct { .. };    -- a DigitallySigned; what is signed does not stand here
--     } SignedCertificateTimestamp;
--
--     struct {
--         HashAlgorithm hash;
--         SignatureAlgorithm signature;
--     } SignatureAndHashAlgorithm;
--
--     struct {
--         SignatureAndHashAlgorithm algorithm;
--         opaque signature<0..2^16-1>;
--     } DigitallySigned;
--
--     opaque SerializedSCT<1..2^16-1>;
use Rattle.std.specs.Prelude.{ℕ, List}
use Rattle.x509_der.specs.Laws.{AtEnd, Anywhere, IsMarkedField}
use Rattle.x509_der.specs.Leaves.{BerPlan}
use Rattle.x509_der.specs.Plan.{◌>>=◌, give, container}
use Rattle.x509_der.specs.Promises.{is_ber_memory}
use Rattle.x509_values.specs.Octets.{fixed, number_of, sized}
use Rattle.x509_values.specs.OctetLaws.{octet_laws, sized_container}
use Rattle.x509_values.specs.Sentence.{IsMarkedSentence}
use Rattle.x509_values.specs.declared.timestamp.DigitallySigned.{DigitallySigned}
use Rattle.x509_values.specs.declared.timestamp.SignedCertificateTimestamp.{SignedCertificateTimestamp}

-- ---- the values

pub record SignedValue : Type 0 where
  pub hash_alg_id : ℕ
  pub sign_alg_id : ℕ
  pub bytes : List ℕ

pub record TimestampValue : Type 0 where
  pub version : ℕ
  pub key_id : List ℕ
  pub timestamp : ℕ
  pub extensions : List ℕ
  pub signature : SignedValue

abbrev pub signed_of : DigitallySigned → SignedValue
signed_of s = record { hash_alg_id = s.hash_alg_id; sign_alg_id = s.sign_alg_id; bytes = s.bytes.now }

abbrev pub timestamp_of : SignedCertificateTimestamp → TimestampValue
timestamp_of t = record { version = t.version.0; key_id = t.id.key_id.now; timestamp = t.timestamp; extensions = t.extensions.0.now; signature = signed_of t.signature }

-- ---- the grammar

-- DigitallySigned
unfoldable pub digitally_signed : BerPlan SignedValue
digitally_signed = do
  hash_alg_id ← number_of 1
  sign_alg_id ← number_of 1
  bytes ← sized
  give (record { hash_alg_id = hash_alg_id; sign_alg_id = sign_alg_id; bytes = bytes })

-- SignedCertificateTimestamp, of any version
unfoldable pub timestamp_fields : BerPlan TimestampValue
timestamp_fields = do
  version ← number_of 1
  key_id ← fixed 32
  timestamp ← number_of 8
  extensions ← sized
  signature ← digitally_signed
  give (record { version = version; key_id = key_id; timestamp = timestamp; extensions = extensions; signature = signature })

-- SerializedSCT; bytes behind the signature are skipped
unfoldable pub timestamp : BerPlan TimestampValue
timestamp = container sized timestamp_fields

-- ---- laws

pub digitally_signed_laws : IsMarkedField is_ber_memory Anywhere digitally_signed
unfolding digitally_signed
digitally_signed_laws = search octet_laws depth 20

pub timestamp_fields_laws : IsMarkedField is_ber_memory AtEnd timestamp_fields
unfolding timestamp_fields
timestamp_fields_laws = search (octet_laws, digitally_signed_laws) depth 30

pub timestamp_laws : IsMarkedSentence is_ber_memory timestamp
unfolding timestamp
timestamp_laws = sized_container timestamp_fields timestamp_fields_laws
