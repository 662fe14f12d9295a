use Rattle.std.proofs.Common.{◌≡◌, ◌++◌, flat_map, map, take, string_bytes}
use Rattle.x509_requests.specs.CriAttribute.{attribute_of}
use Rattle.x509_show.specs.RequestReport.{attribute_line}
use Rattle.x509_show.proofs.request_report.push_attributes.Given as goal

-- the lines so far
abbrev pub invariant-loop-attribute : goal.invariant-loop-attribute
invariant-loop-attribute l =
    string_bytes l.text ≡ string_bytes l.initial.text ++ flat_map attribute_line (map attribute_of (take l.attribute-index l.attributes))
