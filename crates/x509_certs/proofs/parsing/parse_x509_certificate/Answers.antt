use Rattle.x509_certs.proofs.parsing.parse_x509_certificate.Goals as goal

pub returns-clause-exact : goal.returns-clause-exact
returns-clause-exact c = rw (c.new.ensures.deep, c.new.ensures.loose) at c.parse.ensures.exact
