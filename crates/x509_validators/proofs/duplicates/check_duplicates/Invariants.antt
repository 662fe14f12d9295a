use Rattle.std.proofs.Common.{◌≡◌, map, take}
use Rattle.x509_fields.specs.Steps.{Took}
use Rattle.x509_validators.specs.Duplicates.{IsSetOf, repeat_errors, all_distinct}
use Rattle.x509_validators.proofs.duplicates.check_duplicates.Given as goal

abbrev pub invariant-loop-member : goal.invariant-loop-member
invariant-loop-member g l = record {
  can : g.L.Logger.can_log l.logger;
  seen : IsSetOf (map g.T.Identified.id (take l.member-index l.members)) l.seen;
  took : Took g.L.Logger.step l.initial.logger (repeat_errors l.label (map g.T.Identified.id (take l.member-index l.members))) l.logger;
  answer : l.distinct ≡ all_distinct (map g.T.Identified.id (take l.member-index l.members));
}
