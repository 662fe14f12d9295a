use Rattle.json.specs.Json as json
use Rattle.x509_fields.specs.BitNames.{names_left}
use Rattle.x509_report_lines.specs.Says.{SaysRest}
use Rattle.x509_report_objects.proofs.values.bit_names.say_names.Given as goal

-- with the names that are left
abbrev pub invariant-loop-name : goal.invariant-loop-name
invariant-loop-name l = SaysRest l.initial.out l.out (λ s. json.string s) (names_left l.name-iterator) (names_left l.fn.names)
