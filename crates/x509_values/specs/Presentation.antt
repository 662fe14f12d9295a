-- Timestamps as RFC 6962 writes them (RFC 5246, section 4): numbers big-endian, strings of octets behind their length in two octets.
use Rattle.std.specs.Prelude.{◌≡◌, ℕ, ◌^◌, ◌<◌, ◌↔◌, List, ◌∷◌, ◌++◌, length}
use Rattle.std.specs.List.{AllByRecursion, flat_map}
use Rattle.std.specs.Int.{w16, w64, to_be_bytes}
use Rattle.x509_der.specs.Laws.{IsBytes}
use Rattle.x509_der.specs.Leaves.{octets}
use Rattle.x509_values.specs.Timestamp.{SignedValue, TimestampValue, timestamp}
use Rattle.x509_values.specs.TimestampList.{timestamps}

-- opaque <0..2^16-1>
abbrev pub opaque_octets : List ℕ → List ℕ
opaque_octets contents = to_be_bytes w16 (length contents) ++ contents

-- DigitallySigned
abbrev pub signed_octets : SignedValue → List ℕ
signed_octets s = s.hash_alg_id ∷ s.sign_alg_id ∷ opaque_octets s.bytes

-- SignedCertificateTimestamp
abbrev pub fields_octets : TimestampValue → List ℕ
fields_octets t = t.version ∷ (t.key_id ++ (to_be_bytes w64 t.timestamp ++ (opaque_octets t.extensions ++ signed_octets t.signature)))

-- SerializedSCT
abbrev pub timestamp_octets : TimestampValue → List ℕ
timestamp_octets t = opaque_octets (fields_octets t)

-- each part has the size that its type in RFC 6962 tells
pub record CanBeWritten (t : TimestampValue) : Type 0 where
  pub version : t.version < 2 ^ 8
  pub key_id : length t.key_id ≡ 32
  pub timestamp : t.timestamp < 2 ^ 64
  pub extensions : length t.extensions < 2 ^ 16
  pub hash_alg_id : t.signature.hash_alg_id < 2 ^ 8
  pub sign_alg_id : t.signature.sign_alg_id < 2 ^ 8
  pub signature : length t.signature.bytes < 2 ^ 16
  pub whole : length (fields_octets t) < 2 ^ 16

-- what stands plainly at the front of some bytes is just what RFC 6962 writes
abbrev pub PlainIsWritten : Type 0
PlainIsWritten = (place : List ℕ) (t : TimestampValue) (next : List ℕ) → IsBytes place → timestamp.Plain place t next ↔ (CanBeWritten t × (place ≡ timestamp_octets t ++ next))

-- ---- lists

-- SignedCertificateTimestampList as TLS writes it
abbrev pub list_octets : List TimestampValue → List ℕ
list_octets ts = opaque_octets (flat_map timestamp_octets ts)

-- at least one timestamp, and no more than a length in two octets can count
pub record ListCanBeWritten (ts : List TimestampValue) : Type 0 where
  pub some : 0 < length ts
  pub each : AllByRecursion CanBeWritten ts
  pub whole : length (flat_map timestamp_octets ts) < 2 ^ 16

-- an extension's value that stands plainly is just an OCTET STRING of what RFC 6962 writes
abbrev pub PlainListIsWritten : Type 0
PlainListIsWritten = (place : List ℕ) (ts : List TimestampValue) (next : List ℕ) → IsBytes place → timestamps.Plain place ts next ↔ (ListCanBeWritten ts × octets.Plain place (list_octets ts) next)
