-- Timestamps as C sees them.
use Rattle.std.specs.Prelude.{◌≡◌, ℕ, List, length}
use Rattle.x509_values.specs.Timestamp.{TimestampValue}
use Rattle.x509_c.specs.Rows.{RowsShow}
use Rattle.x509_c.specs.declared.timestamps.TimestampRow.{TimestampRow}

pub record IsTimestampRow (row : TimestampRow) (timestamp : TimestampValue) : Type 0 where
  pub log_id : row.log_id.now ≡ timestamp.key_id
  pub extensions : row.extensions.now ≡ timestamp.extensions
  pub signature : row.signature.now ≡ timestamp.signature.bytes
  pub milliseconds : row.timestamp ≡ timestamp.timestamp
  pub version : row.version ≡ timestamp.version
  pub hash_algorithm : row.hash_algorithm ≡ timestamp.signature.hash_alg_id
  pub signature_algorithm : row.signature_algorithm ≡ timestamp.signature.sign_alg_id

-- all timestamps are counted, and shown as far as there are rows
pub record ShowsTimestamps (written : List TimestampRow) (told : ℕ) (timestamps : List TimestampValue) : Type 0 where
  pub count : told ≡ length timestamps
  pub rows : RowsShow IsTimestampRow written timestamps
