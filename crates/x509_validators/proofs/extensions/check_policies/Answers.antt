use Rattle.std.proofs.Common.{rules}
use Rattle.x509_values.specs.Policies.{policy_of}
use Rattle.x509_validators.specs.Extensions.{policy_errors}
use Rattle.x509_validators.proofs.Among.{map-viewed}
use Rattle.x509_validators.proofs.extensions.check_policies.Goals as goal

pub returns : goal.returns
unfolding policy_errors
returns g c = record { can = search rules; logs = rw (map-viewed (λ p. p.policy_id) policy_of c.args.policies.now) c.check_duplicates.ensures.logs }
