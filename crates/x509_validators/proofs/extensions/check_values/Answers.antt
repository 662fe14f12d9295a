use Rattle.std.proofs.Common.{rules, arith}
use Rattle.x509_extensions.specs.Extension.{extension_of}
use Rattle.x509_validators.specs.Extensions.{extension_messages, is_sound_extension}
use Rattle.x509_validators.proofs.Viewed.{Took-item, StoppedAt-item, list_all-item}
use Rattle.x509_validators.proofs.extensions.check_values.Goals as goal

pub returns-in_err-sound : goal.returns-in_err-sound
returns-in_err-sound g c =
    let stopped = StoppedAt-item g.L.Logger.step extension_of extension_messages c.args.extensions.now c.loop-extension.extension-index c.extension-item.result c.extension-item.result c.args.logger.now c.loop-extension.logger _ c.check_extension.new.logger c.extension-item.is c.loop-extension-test.true c.loop-extension.invariant.took c.in_err-sound.ensures.logs in
    record { can = search rules; logs = grind (arith, stopped) }

pub loop-extension-preserved : goal.loop-extension-preserved
loop-extension-preserved g c = record {
  can = c.check_extension.ensures.can;
  took = Took-item g.L.Logger.step extension_of extension_messages c.args.extensions.now c.loop-extension.extension-index c.extension-item.result c.extension-item.result c.args.logger.now c.loop-extension.logger c.check_extension.new.logger c.extension-item.is c.loop-extension-test.true c.loop-extension.invariant.took c.in_ok-sound.ensures.logs.1;
  answer = list_all-item extension_of is_sound_extension c.args.extensions.now c.loop-extension.extension-index c.extension-item.result c.extension-item.result c.loop-extension.sound c.in_ok-sound.field-0 c.extension-item.is c.loop-extension-test.true c.loop-extension.invariant.answer c.in_ok-sound.ensures.logs.0;
}
