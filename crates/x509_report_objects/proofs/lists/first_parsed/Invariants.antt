use Rattle.std.proofs.Common.{◌≡◌, map, drop}
use Rattle.x509_extensions.specs.Extension.{extension_of}
use Rattle.x509_report_objects.specs.Lists.{first_parsed}
use Rattle.x509_report_objects.proofs.lists.first_parsed.Given as goal

-- none so far has the identifier
abbrev pub invariant-loop-extension : goal.invariant-loop-extension
invariant-loop-extension l = first_parsed l.id (map extension_of (drop l.extension-index l.extensions)) ≡ first_parsed l.id (map extension_of l.extensions)
