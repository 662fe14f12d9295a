use Rattle.std.proofs.Common.{rules}
use Rattle.x509_validators.specs.Names.{attribute_warnings}
use Rattle.x509_validators.proofs.name.check_attribute.Goals as goal

pub returns : goal.returns
unfolding attribute_warnings
returns g c = record { can = search rules; logs = rw (← c.attr_type-oid.ensures, ← c.attr_value.ensures, ← c.is_out_of_charset-found.ensures) c.log_warning_if.ensures.logs }
