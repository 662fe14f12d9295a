use Rattle.std.proofs.Common.{◌≡◌, map, drop}
use Rattle.x509_lists.specs.RevokedCertificate.{revoked_of}
use Rattle.x509_report_objects.specs.RefusedValues.{any_in_entries}
use Rattle.x509_report_objects.proofs.refused_values.any_in_entries.Given as goal

-- none so far has one
abbrev pub invariant-loop-entry : goal.invariant-loop-entry
invariant-loop-entry l = any_in_entries (map revoked_of (drop l.entry-index l.entries)) ≡ any_in_entries (map revoked_of l.entries)
