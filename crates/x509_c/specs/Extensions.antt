-- Extensions as C sees them.
use Rattle.std.specs.Prelude.{◌≡◌}
use Rattle.x509_extensions.specs.Extension.{Extension}
use Rattle.x509_c.specs.Flags.{flag}
use Rattle.x509_c.specs.declared.extensions.ExtensionRow.{ExtensionRow}

pub record IsExtensionRow (row : ExtensionRow) (extension : Extension) : Type 0 where
  pub oid : row.oid.now ≡ extension.oid
  pub value : row.value.now ≡ extension.value
  pub critical : row.critical ≡ flag extension.critical
