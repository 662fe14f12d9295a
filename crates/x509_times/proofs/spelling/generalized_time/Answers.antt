use Rattle.std.proofs.Common.{rules}
use Rattle.x509_times.specs.Octets.{generalized_moment}
use Rattle.x509_times.proofs.Spellings.{generalized_found, generalized_spells}
use Rattle.x509_times.proofs.spelling.generalized_time.Goals as goal

pub returns-in_err-century-clause-reads : goal.returns-in_err-century-clause-reads
unfolding generalized_moment
returns-in_err-century-clause-reads c = generalized_found _ c.args.bytes.now (search rules)

pub returns-in_err-year-clause-reads : goal.returns-in_err-year-clause-reads
unfolding generalized_moment
returns-in_err-year-clause-reads c = generalized_found _ c.args.bytes.now (search rules)

pub returns-in_err-month-clause-reads : goal.returns-in_err-month-clause-reads
unfolding generalized_moment
returns-in_err-month-clause-reads c = generalized_found _ c.args.bytes.now (search rules)

pub returns-in_err-day-clause-reads : goal.returns-in_err-day-clause-reads
unfolding generalized_moment
returns-in_err-day-clause-reads c = generalized_found _ c.args.bytes.now (search rules)

pub returns-in_err-hour-clause-reads : goal.returns-in_err-hour-clause-reads
unfolding generalized_moment
returns-in_err-hour-clause-reads c = generalized_found _ c.args.bytes.now (search rules)

pub returns-in_err-minute-clause-reads : goal.returns-in_err-minute-clause-reads
unfolding generalized_moment
returns-in_err-minute-clause-reads c = generalized_found _ c.args.bytes.now (search rules)

pub returns-in_err-second-clause-reads : goal.returns-in_err-second-clause-reads
unfolding generalized_moment
returns-in_err-second-clause-reads c = generalized_found _ c.args.bytes.now (search rules)

pub returns-in_err-offset-clause-reads : goal.returns-in_err-offset-clause-reads
unfolding generalized_moment
returns-in_err-offset-clause-reads c = generalized_found _ c.args.bytes.now (search rules)

pub returns-clause-spells : goal.returns-clause-spells
unfolding generalized_moment
returns-clause-spells c = generalized_spells c.real_moment.result c.args.bytes.now (search rules)

pub returns-clause-reads : goal.returns-clause-reads
unfolding generalized_moment
returns-clause-reads c = generalized_found _ c.args.bytes.now (search rules)
