use Rattle.std.proofs.Common.{map, take}
use Rattle.x509_general_names.specs.GeneralName.{general_name_of}
use Rattle.x509_fields.specs.Steps.{Took}
use Rattle.x509_validators.specs.AlternativeNames.{names_warnings}
use Rattle.x509_validators.proofs.alternative_names.check_names.Given as goal

abbrev pub invariant-loop-name : goal.invariant-loop-name
invariant-loop-name g l = record {
  can : g.L.Logger.can_log l.logger;
  took : Took g.L.Logger.step l.initial.logger (names_warnings (map general_name_of (take l.name-index l.names))) l.logger;
}
