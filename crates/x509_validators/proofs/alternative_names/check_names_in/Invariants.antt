use Rattle.std.proofs.Common.{map, take}
use Rattle.std.specs.List.{flat_map}
use Rattle.x509_extensions.specs.Extension.{extension_of}
use Rattle.x509_fields.specs.Steps.{Took}
use Rattle.x509_validators.specs.AlternativeNames.{names_in}
use Rattle.x509_validators.proofs.alternative_names.check_names_in.Given as goal

abbrev pub invariant-loop-extension : goal.invariant-loop-extension
invariant-loop-extension g l = record {
  can : g.L.Logger.can_log l.logger;
  took : Took g.L.Logger.step l.initial.logger (flat_map names_in (map extension_of (take l.extension-index l.extensions))) l.logger;
}
