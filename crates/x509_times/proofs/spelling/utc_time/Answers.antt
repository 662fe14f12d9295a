use Rattle.std.proofs.Common.{rules}
use Rattle.x509_times.specs.Octets.{utc_moment}
use Rattle.x509_times.proofs.Spellings.{utc_found, utc_spells}
use Rattle.x509_times.proofs.spelling.utc_time.Goals as goal

pub returns-in_err-year-clause-reads : goal.returns-in_err-year-clause-reads
unfolding utc_moment
returns-in_err-year-clause-reads c = utc_found _ c.args.bytes.now (search rules)

pub returns-in_err-month-clause-reads : goal.returns-in_err-month-clause-reads
unfolding utc_moment
returns-in_err-month-clause-reads c = utc_found _ c.args.bytes.now (search rules)

pub returns-in_err-day-clause-reads : goal.returns-in_err-day-clause-reads
unfolding utc_moment
returns-in_err-day-clause-reads c = utc_found _ c.args.bytes.now (search rules)

pub returns-in_err-hour-clause-reads : goal.returns-in_err-hour-clause-reads
unfolding utc_moment
returns-in_err-hour-clause-reads c = utc_found _ c.args.bytes.now (search rules)

pub returns-in_err-minute-clause-reads : goal.returns-in_err-minute-clause-reads
unfolding utc_moment
returns-in_err-minute-clause-reads c = utc_found _ c.args.bytes.now (search rules)

pub returns-in_err-second-clause-reads : goal.returns-in_err-second-clause-reads
unfolding utc_moment
returns-in_err-second-clause-reads c = utc_found _ c.args.bytes.now (search rules)

pub returns-in_err-offset-clause-reads : goal.returns-in_err-offset-clause-reads
unfolding utc_moment
returns-in_err-offset-clause-reads c = utc_found _ c.args.bytes.now (search rules)

pub returns-clause-spells : goal.returns-clause-spells
unfolding utc_moment
returns-clause-spells c = utc_spells c.real_moment.result c.args.bytes.now (search rules)

pub returns-clause-reads : goal.returns-clause-reads
unfolding utc_moment
returns-clause-reads c = utc_found _ c.args.bytes.now (search rules)
