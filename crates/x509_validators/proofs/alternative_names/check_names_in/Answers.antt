use Rattle.std.proofs.Common.{rules, arith}
use Rattle.x509_extensions.specs.Extension.{extension_of}
use Rattle.x509_validators.specs.AlternativeNames.{names_in}
use Rattle.x509_validators.proofs.Viewed.{Took-item, StoppedAt-item}
use Rattle.x509_validators.proofs.alternative_names.check_names_in.Goals as goal

pub returns-in_err-check_extension : goal.returns-in_err-check_extension
returns-in_err-check_extension g c =
    let stopped = StoppedAt-item g.L.Logger.step extension_of names_in c.args.extensions.now c.loop-extension.extension-index c.extension-item.result c.extension-item.result c.args.logger.now c.loop-extension.logger _ c.check_extension.new.logger c.extension-item.is c.loop-extension-test.true c.loop-extension.invariant.took c.in_err-check_extension.ensures.logs in
    record { can = search rules; logs = grind (arith, stopped) }

pub loop-extension-preserved : goal.loop-extension-preserved
loop-extension-preserved g c = record {
  can = c.check_extension.ensures.can;
  took = Took-item g.L.Logger.step extension_of names_in c.args.extensions.now c.loop-extension.extension-index c.extension-item.result c.extension-item.result c.args.logger.now c.loop-extension.logger c.check_extension.new.logger c.extension-item.is c.loop-extension-test.true c.loop-extension.invariant.took c.in_ok-check_extension.ensures.logs.1;
}
