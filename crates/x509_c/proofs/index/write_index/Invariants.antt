-- The rows so far are those of their entries.
use Rattle.std.proofs.Common.{map}
use Rattle.x509_lists.specs.FindRevoked.{serial_numbers}
use Rattle.x509_lists.specs.RevokedCertificate.{revoked_of}
use Rattle.x509_revoked.specs.Entries.{indexed_from}
use Rattle.x509_c.specs.Rows.{RowsShowBelow}
use Rattle.x509_c.proofs.Ranks.{IsRowOf}
use Rattle.x509_c.proofs.index.write_index.Given as goal

abbrev pub invariant-loop-i : goal.invariant-loop-i
invariant-loop-i l = RowsShowBelow IsRowOf l.i l.rows (indexed_from 0 (serial_numbers (map revoked_of l.revoked)))
