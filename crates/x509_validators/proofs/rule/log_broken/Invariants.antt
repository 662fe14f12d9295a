use Rattle.std.proofs.Common.{map, take}
use Rattle.x509_fields.specs.Steps.{Took}
use Rattle.x509_validators.specs.Rules.{row_of, told}
use Rattle.x509_validators.proofs.rule.log_broken.Given as goal

abbrev pub invariant-loop-rule : goal.invariant-loop-rule
invariant-loop-rule g l = record {
  can : g.L.Logger.can_log l.logger;
  took : Took g.L.Logger.step l.initial.logger (told (map row_of (take l.rule-index l.rules))) l.logger;
}
