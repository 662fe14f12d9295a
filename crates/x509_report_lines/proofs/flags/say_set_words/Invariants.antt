use Rattle.std.proofs.Common.{map, drop}
use Rattle.json.specs.Json as json
use Rattle.x509_report_lines.specs.Says.{SaysRest}
use Rattle.x509_report_lines.specs.Flags.{set_words}
use Rattle.x509_report_lines.proofs.flags.say_set_words.Given as goal

-- with the words that are left
abbrev pub invariant-loop-set : goal.invariant-loop-set
invariant-loop-set l = SaysRest l.initial.out l.out (λ s. json.string s) (set_words (map (λ r. (r.0, r.1.now)) (drop l.set-index l.words))) (set_words (map (λ r. (r.0, r.1.now)) l.words))
