use Rattle.std.proofs.Common.{map}
use Rattle.x509_names.specs.Names.{attribute_of, attributes_left, relative_name_of}
use Rattle.x509_report_lines.specs.Says.{SaysRest}
use Rattle.x509_report_objects.specs.Names.{attribute_report}
use Rattle.x509_report_objects.proofs.values.names.say_attributes.Given as goal

abbrev pub invariant-loop-attribute : goal.invariant-loop-attribute
invariant-loop-attribute l = SaysRest l.initial.out l.out attribute_report (map attribute_of (attributes_left l.attribute-iterator)) (relative_name_of l.fn.name)
