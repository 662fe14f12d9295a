use Rattle.std.proofs.Common.{map, take}
use Rattle.json.specs.Json as json
use Rattle.x509_general_names.specs.GeneralName.{general_name_of}
use Rattle.x509_report_lines.specs.Says.{SaysEachIn}
use Rattle.x509_report_objects.specs.Certificates.{host_in}
use Rattle.x509_report_objects.proofs.summary.say_hosts.Given as goal

abbrev pub invariant-loop-name : goal.invariant-loop-name
invariant-loop-name l = SaysEachIn l.initial.out l.out (λ s. json.string s) host_in (map general_name_of (take l.name-index l.names))
