use Rattle.std.proofs.Common.{◌≡◌, map, take}
use Rattle.std.specs.List.{flat_map, list_all}
use Rattle.x509_extensions.specs.Extension.{extension_of}
use Rattle.x509_fields.specs.Steps.{Took}
use Rattle.x509_validators.specs.Extensions.{extension_messages, is_sound_extension}
use Rattle.x509_validators.proofs.extensions.check_values.Given as goal

abbrev pub invariant-loop-extension : goal.invariant-loop-extension
invariant-loop-extension g l = record {
  can : g.L.Logger.can_log l.logger;
  took : Took g.L.Logger.step l.initial.logger (flat_map extension_messages (map extension_of (take l.extension-index l.extensions))) l.logger;
  answer : l.sound ≡ list_all is_sound_extension (map extension_of (take l.extension-index l.extensions));
}
