use Rattle.std.proofs.Common.{map, take}
use Rattle.x509_requests.specs.CriAttribute.{attribute_of}
use Rattle.x509_report_lines.specs.Says.{SaysEach}
use Rattle.x509_report_objects.specs.Requests.{attribute_report}
use Rattle.x509_report_objects.proofs.requests.say_attributes.Given as goal

abbrev pub invariant-loop-attribute : goal.invariant-loop-attribute
invariant-loop-attribute l = SaysEach l.initial.out l.out attribute_report (map attribute_of (take l.attribute-index l.attributes))
