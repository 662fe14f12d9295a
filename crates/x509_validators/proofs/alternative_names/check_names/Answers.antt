use Rattle.std.proofs.Common.{rules, arith}
use Rattle.x509_general_names.specs.GeneralName.{general_name_of}
use Rattle.x509_validators.specs.AlternativeNames.{general_name_warnings}
use Rattle.x509_validators.proofs.Viewed.{Took-item, StoppedAt-item}
use Rattle.x509_validators.proofs.alternative_names.check_names.Goals as goal

pub returns-in_err-check_name : goal.returns-in_err-check_name
returns-in_err-check_name g c =
    let stopped = StoppedAt-item g.L.Logger.step general_name_of general_name_warnings c.args.names.now c.loop-name.name-index c.name-item.result c.name-item.result c.args.logger.now c.loop-name.logger _ c.check_name.new.logger c.name-item.is c.loop-name-test.true c.loop-name.invariant.took c.in_err-check_name.ensures.logs in
    record { can = search rules; logs = grind (arith, stopped) }

pub loop-name-preserved : goal.loop-name-preserved
loop-name-preserved g c = record {
  can = c.check_name.ensures.can;
  took = Took-item g.L.Logger.step general_name_of general_name_warnings c.args.names.now c.loop-name.name-index c.name-item.result c.name-item.result c.args.logger.now c.loop-name.logger c.check_name.new.logger c.name-item.is c.loop-name-test.true c.loop-name.invariant.took c.in_ok-check_name.ensures.logs.1;
}
