use Rattle.std.proofs.Common.{rules, arith}
use Rattle.x509_extensions.specs.Extension.{extension_of}
use Rattle.x509_validators.specs.Readings.{reading_messages, is_readable}
use Rattle.x509_validators.proofs.Viewed.{Took-item, StoppedAt-item, list_all-item}
use Rattle.x509_validators.proofs.readings.check_readings.Goals as goal

pub returns-in_err-readable : goal.returns-in_err-readable
returns-in_err-readable g c =
    let stopped = StoppedAt-item g.L.Logger.step extension_of reading_messages c.args.extensions.now c.loop-extension.extension-index c.extension-item.result c.extension-item.result c.args.logger.now c.loop-extension.logger _ c.check_reading.new.logger c.extension-item.is c.loop-extension-test.true c.loop-extension.invariant.took c.in_err-readable.ensures.logs in
    record { can = search rules; logs = grind (arith, stopped) }

pub loop-extension-preserved : goal.loop-extension-preserved
loop-extension-preserved g c = record {
  can = c.check_reading.ensures.can;
  took = Took-item g.L.Logger.step extension_of reading_messages c.args.extensions.now c.loop-extension.extension-index c.extension-item.result c.extension-item.result c.args.logger.now c.loop-extension.logger c.check_reading.new.logger c.extension-item.is c.loop-extension-test.true c.loop-extension.invariant.took c.in_ok-readable.ensures.logs.1;
  answer = list_all-item extension_of is_readable c.args.extensions.now c.loop-extension.extension-index c.extension-item.result c.extension-item.result c.loop-extension.readable c.in_ok-readable.field-0 c.extension-item.is c.loop-extension-test.true c.loop-extension.invariant.answer c.in_ok-readable.ensures.logs.0;
}
