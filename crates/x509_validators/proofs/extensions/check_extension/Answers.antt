use Rattle.std.proofs.Common.{rules}
use Rattle.x509_validators.proofs.extensions.check_extension.Goals as goal

pub returns : goal.returns
returns g c = record { can = search rules; logs = rw (← c.parsed_extension-value.ensures) c.check_value.ensures.logs }
