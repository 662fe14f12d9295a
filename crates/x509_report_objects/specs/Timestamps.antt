-- What a report says of a log's promise to publish a certificate (RFC 6962, 3.2).
use Rattle.std.specs.Prelude.{ℕ, List, [], ◌∷◌, ◌++◌, codes}
use Rattle.json.specs.Json.{Json}
use Rattle.x509_values.specs.Timestamp.{SignedValue, TimestampValue}
use Rattle.x509_report_lines.specs.Says.{count, record_of}
use Rattle.x509_report_objects.specs.Octets.{hex}

abbrev pub promise_members : TimestampValue → List (List ℕ × Json)
promise_members t =
    (codes "version", count t.version) ∷
    (codes "log_id", hex t.key_id) ∷
    (codes "timestamp_ms", count t.timestamp) ∷
    (codes "extensions", hex t.extensions) ∷ []

abbrev pub signed_members : SignedValue → List (List ℕ × Json)
signed_members s =
    (codes "hash", count s.hash_alg_id) ∷
    (codes "sign", count s.sign_alg_id) ∷
    (codes "signature", hex s.bytes) ∷ []

unfoldable pub timestamp_report : TimestampValue → Json
timestamp_report t = record_of (promise_members t ++ signed_members t.signature)
