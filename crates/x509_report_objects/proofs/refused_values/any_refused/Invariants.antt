use Rattle.std.proofs.Common.{◌≡◌, map, drop}
use Rattle.x509_extensions.specs.Extension.{extension_of}
use Rattle.x509_report_objects.specs.RefusedValues.{any_refused}
use Rattle.x509_report_objects.proofs.refused_values.any_refused.Given as goal

-- none so far has one
abbrev pub invariant-loop-extension : goal.invariant-loop-extension
invariant-loop-extension l = any_refused (map extension_of (drop l.extension-index l.extensions)) ≡ any_refused (map extension_of l.extensions)
