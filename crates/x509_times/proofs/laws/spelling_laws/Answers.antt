use Rattle.x509_times.proofs.Spellings.{utc_spelled, generalized_spelled}
use Rattle.x509_times.proofs.laws.spelling_laws.Goals as goal

pub returns-clause-utc : goal.returns-clause-utc
returns-clause-utc c = utc_spelled

pub returns-clause-generalized : goal.returns-clause-generalized
returns-clause-generalized c = generalized_spelled
