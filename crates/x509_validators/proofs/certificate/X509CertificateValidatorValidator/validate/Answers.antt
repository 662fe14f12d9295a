use Rattle.x509_validators.proofs.certificate.X509CertificateValidatorValidator.validate.Goals as goal

pub returns-clause-logs : goal.returns-clause-logs
returns-clause-logs g c = rw (← c.extensions.ensures) c.check_extensions.ensures.logs
