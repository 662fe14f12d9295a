use Rattle.std.proofs.Common.{rules}
use Rattle.x509_extensions.specs.Extension.{extension_of}
use Rattle.x509_validators.specs.Extensions.{extension_errors}
use Rattle.x509_validators.proofs.Among.{map-viewed}
use Rattle.x509_validators.proofs.extensions.check_identifiers.Goals as goal

pub returns : goal.returns
unfolding extension_errors
returns g c = record { can = search rules; logs = rw (map-viewed (λ e. e.oid) extension_of c.args.extensions.now) c.check_duplicates.ensures.logs }
