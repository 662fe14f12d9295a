use Rattle.x509_values.proofs.ns_cert_type.NSCertTypeDisplay.fmt.Goals as goal

pub returns-clause-writes : goal.returns-clause-writes
returns-clause-writes g c = λ plain ok. rw (← c.from.ensures) (c.write.ensures.writes plain ok)
