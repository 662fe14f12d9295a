use Rattle.std.proofs.Common.{rules}
use Rattle.x509_certs.proofs.validity.Validity.days_left.Goals as goal

pub returns : goal.returns
returns c = rw (← c.timestamp.ensures.unix, ← c.timestamp-2.ensures.unix) (search (rules, c.div_euclid.ensures))
