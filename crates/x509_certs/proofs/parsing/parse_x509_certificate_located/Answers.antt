use Rattle.x509_certs.proofs.parsing.parse_x509_certificate_located.Goals as goal

pub returns-clause-exact : goal.returns-clause-exact
returns-clause-exact c = rw (c.new.ensures.deep, c.new.ensures.loose) at c.parse_located.ensures.exact
