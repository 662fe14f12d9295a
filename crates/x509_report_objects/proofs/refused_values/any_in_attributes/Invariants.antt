use Rattle.std.proofs.Common.{◌≡◌, map, drop}
use Rattle.x509_requests.specs.CriAttribute.{attribute_of}
use Rattle.x509_report_objects.specs.RefusedValues.{any_in_attributes}
use Rattle.x509_report_objects.proofs.refused_values.any_in_attributes.Given as goal

-- none so far has one
abbrev pub invariant-loop-attribute : goal.invariant-loop-attribute
invariant-loop-attribute l = any_in_attributes (map attribute_of (drop l.attribute-index l.attributes)) ≡ any_in_attributes (map attribute_of l.attributes)
