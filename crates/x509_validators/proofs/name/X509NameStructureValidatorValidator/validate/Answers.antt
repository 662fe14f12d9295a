use Rattle.std.proofs.Common.{◌∷◌, arith, ap, refl, map, ◌++◌, ◌∙◌}
use Rattle.std.specs.List.{flat_map}
use Rattle.x509_names.specs.Names.{attributes_left}
use Rattle.x509_validators.proofs.Names.{warnings_at, warnings_seen, seen_and_left, one_more_seen, all_seen}
use Rattle.x509_validators.proofs.Viewed.{Took-next, StoppedAt-next}
use Rattle.x509_validators.proofs.name.X509NameStructureValidatorValidator.validate.Goals as goal

pub loop-attribute-preserved : goal.loop-attribute-preserved
loop-attribute-preserved g c = record {
  can = c.check_attribute.ensures.can;
  took = Took-next g.L.Logger.step warnings_seen c.loop-attribute.yielded c.in-Some.attribute c.args.logger.now c.loop-attribute.logger c.check_attribute.new.logger c.loop-attribute.invariant.took c.in_ok-check_attribute.ensures.logs.1;
  seen = one_more_seen _ _ _ c.loop-attribute.yielded c.in-Some.attribute c.loop-attribute.invariant.seen c.in-Some.ensures.steps;
}

pub returns-in_err-check_attribute-clause-logs : goal.returns-in_err-check_attribute-clause-logs
returns-in_err-check_attribute-clause-logs g c =
    let left = attributes_left c.next.new.self in
    let seen = c.loop-attribute.invariant.seen ∙ ap (λ l. map (λ a. a.now) c.loop-attribute.yielded ++ l) c.in-Some.ensures.steps in
    let stopped = StoppedAt-next g.L.Logger.step warnings_seen c.loop-attribute.yielded c.in-Some.attribute (flat_map warnings_at left) _ c.args.logger.now c.loop-attribute.logger _ c.check_attribute.new.logger (seen_and_left c.args.item.now.rdn_seq c.loop-attribute.yielded (c.in-Some.attribute.now ∷ left) seen) c.loop-attribute.invariant.took c.in_err-check_attribute.ensures.logs in
    grind (arith, stopped)

pub returns-clause-logs : goal.returns-clause-logs
returns-clause-logs g c = (refl, rw (all_seen c.args.item.now.rdn_seq c.loop-attribute.yielded _ c.loop-attribute.invariant.seen c.in-None.ensures.steps.0) c.loop-attribute.invariant.took)
