use Rattle.x509_validators.proofs.one_call.validate_by.Goals as goal

pub returns : goal.returns
returns g c = (c.validate.new.logger, rw (← c.new-logger.ensures) c.validate.ensures.logs)
