use Rattle.std.proofs.Common.{rules}
use Rattle.x509_values.specs.ExtendedKeyUsage.{usages_in}
use Rattle.x509_values.proofs.extended_key_usage.ExtendedKeyUsage.none.Goals as goal

pub returns-clause-says : goal.returns-clause-says
unfolding usages_in
returns-clause-says c = search rules
