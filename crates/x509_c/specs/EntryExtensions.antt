-- The extensions of a list's entries as C sees them (RFC 5280, 5.3).
use Rattle.std.specs.Prelude.{◌≡◌, ℕ, List, map}
use Rattle.x509_extensions.specs.Extension.{Extension}
use Rattle.x509_lists.specs.RevokedCertificate.{Revoked}
use Rattle.x509_c.specs.Flags.{flag}
use Rattle.x509_c.specs.Rows.{numbered_from}
use Rattle.x509_c.specs.declared.entry_extensions.EntryExtensionRow.{EntryExtensionRow}

-- an extension, and the position of its entry
pub record IsEntryExtensionRow (row : EntryExtensionRow) (placed : ℕ × Extension) : Type 0 where
  pub oid : row.oid.now ≡ placed.1.oid
  pub value : row.value.now ≡ placed.1.value
  pub entry : row.entry ≡ placed.0
  pub critical : row.critical ≡ flag placed.1.critical

-- those of all entries in order, each with the position of its entry
abbrev pub entry_extensions : List Revoked → List (ℕ × Extension)
entry_extensions entries = numbered_from 0 (map (λ r. r.extensions) entries)
