-- The entries of a list one by one, as C sees them (RFC 5280, 5.1.2.6).
use Rattle.std.specs.Prelude.{◌≡◌, ℕ, List, [], length}
use Rattle.x509_der.specs.Plan.{members}
use Rattle.x509_lists.specs.RevokedCertificate.{Revoked, revoked}
use Rattle.x509_c.specs.Extensions.{IsExtensionRow}
use Rattle.x509_c.specs.Lists.{IsRevokedRow}
use Rattle.x509_c.specs.Rows.{RowsShow}
use Rattle.x509_c.specs.declared.extensions.ExtensionRow.{ExtensionRow}
use Rattle.x509_c.specs.declared.lists.RevokedRow.{RevokedRow}
use Rattle.x509_c.specs.declared.octets.OctetsRow.{OctetsRow}

-- the window holds these entries one behind another, so many, and nothing behind the last
pub record HoldsEntries (window : OctetsRow) (told : ℕ) (entries : List Revoked) : Type 0 where
  pub octets : members revoked window.octets.now ≡ ([], entries)
  pub count : told ≡ length entries

-- an entry, its extensions as far as there are rows, and what stands behind it
pub record ShowsEntry (row : RevokedRow) (rows : List ExtensionRow) (window : OctetsRow) (entry : Revoked) (behind : List ℕ) : Type 0 where
  pub fields : IsRevokedRow row entry
  pub extensions : RowsShow IsExtensionRow rows entry.extensions
  pub left : window.octets.now ≡ behind
