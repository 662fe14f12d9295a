use Rattle.std.proofs.Common.{map, take}
use Rattle.std.specs.String.{string_bytes}
use Rattle.json.specs.Json as json
use Rattle.x509_report_lines.specs.Says.{SaysEach}
use Rattle.x509_report_objects.proofs.certificates.say_texts.Given as goal

abbrev pub invariant-loop-text : goal.invariant-loop-text
invariant-loop-text l = SaysEach l.initial.out l.out (λ s. json.string s) (map string_bytes (take l.text-index l.texts))
