use Rattle.std.proofs.Common.{ap, ◌∙◌}
use Rattle.x509_der.specs.Oid.{oid_bytes}
use Rattle.x509_report_objects.proofs.OnlyParsed.{parsed_in, only_is_only_parsed}
use Rattle.x509_report_objects.proofs.summary.only_parsed.Goals as goal

pub returns-in-Ok : goal.returns-in-Ok
returns-in-Ok c = c.parsed_of.ensures ∙ ap parsed_in c.in-Ok.ensures ∙ only_is_only_parsed (oid_bytes c.args.oid.now) c.args.extensions.now

pub returns-in-Err : goal.returns-in-Err
returns-in-Err c = ap parsed_in c.in-Err.ensures ∙ only_is_only_parsed (oid_bytes c.args.oid.now) c.args.extensions.now
