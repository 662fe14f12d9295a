use Rattle.std.proofs.Common.{rules, arith}
use Rattle.x509_validators.specs.Rules.{row_message, row_of}
use Rattle.x509_validators.proofs.Viewed.{Took-viewed, StoppedAt-viewed}
use Rattle.x509_validators.proofs.rule.log_broken.Goals as goal

pub returns-in_err-log_rule : goal.returns-in_err-log_rule
returns-in_err-log_rule g c =
    let stopped = StoppedAt-viewed g.L.Logger.step row_of row_message c.args.rules.now c.loop-rule.rule-index _ c.args.logger.now c.loop-rule.logger _ c.log_rule.new.logger c.loop-rule-test.true c.loop-rule.invariant.took c.in_err-log_rule.ensures.logs in
    record { can = search rules; logs = grind (arith, stopped) }

pub loop-rule-preserved : goal.loop-rule-preserved
loop-rule-preserved g c = record {
  can = c.log_rule.ensures.can;
  took = Took-viewed g.L.Logger.step row_of row_message c.args.rules.now c.loop-rule.rule-index _ c.args.logger.now c.loop-rule.logger c.log_rule.new.logger c.loop-rule-test.true c.loop-rule.invariant.took c.in_ok-log_rule.ensures.logs.1;
}
