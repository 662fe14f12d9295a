use Rattle.std.proofs.Common.{map, take}
use Rattle.x509_extensions.specs.Extension.{extension_of}
use Rattle.x509_report_lines.specs.Says.{SaysEach}
use Rattle.x509_report_objects.specs.Extensions.{extension_report}
use Rattle.x509_report_objects.proofs.extensions.say_extensions.Given as goal

abbrev pub invariant-loop-extension : goal.invariant-loop-extension
invariant-loop-extension l = SaysEach l.initial.out l.out extension_report (map extension_of (take l.extension-index l.extensions))
