use Rattle.std.proofs.Common.{map, take}
use Rattle.json.specs.Json as json
use Rattle.x509_extensions.specs.Extension.{extension_of}
use Rattle.x509_report_lines.specs.Says.{SaysEachIn}
use Rattle.x509_report_objects.specs.Certificates.{hosts_in}
use Rattle.x509_report_objects.proofs.summary.say_hosts_of.Given as goal

abbrev pub invariant-loop-extension : goal.invariant-loop-extension
invariant-loop-extension l = SaysEachIn l.initial.out l.out (λ s. json.string s) (λ e. hosts_in e.parsed) (map extension_of (take l.extension-index l.extensions))
