use Rattle.std.proofs.Common.{◌≡◌, ◌++◌, flat_map, map, take, string_bytes}
use Rattle.x509_lists.specs.RevokedCertificate.{revoked_of}
use Rattle.x509_show.specs.ListReport.{revoked_line}
use Rattle.x509_show.proofs.list_report.push_all_revoked.Given as goal

-- the lines so far
abbrev pub invariant-loop-one : goal.invariant-loop-one
invariant-loop-one l =
    string_bytes l.text ≡ string_bytes l.initial.text ++ flat_map revoked_line (map revoked_of (take l.one-index l.revoked))
