-- The entry of a serial, by each way of looking for it (RFC 5280, 5.1.2.6).
use Rattle.std.specs.Prelude.{◌≡◌, ℕ, List, true, Option, Some, None, map, slice_get}
use Rattle.x509_lists.specs.FindRevoked.{first_of, serial_numbers}
use Rattle.x509_lists.specs.RevokedCertificate.{Revoked, revoked_of}
use Rattle.x509_lists.specs.RevokedEntries.{entries_of}
use Rattle.x509_lists.specs.TbsCertList.{TbsList}
use Rattle.x509_revoked.specs.Index.{answer}
use Rattle.x509_revoked.specs.OctetsIndex.{indexed_entries}
use Rattle.x509_revoked_cli.specs.Issuers.{are_readable, entries_under}
use Rattle.x509_revoked_cli.specs.declared.search.Search.{Search}
use Rattle.x509_revoked_cli.specs.declared.search.Search.TheVariants.{Scan, Index, OfIssuer}

abbrev pub entry_at : List Revoked → Option ℕ → Option Revoked
entry_at all None = None
entry_at all (Some position) = slice_get all position

-- the first with the number
abbrev pub first_entry : List Revoked → ℕ → Option Revoked
first_entry all number = entry_at all (first_of (serial_numbers all) number)

abbrev pub found_in : Search → ℕ → Option Revoked
found_in (Scan entries) number = first_entry (entries_of entries) number
found_in (Index index) number = first_entry (indexed_entries index) number
found_in (OfIssuer entries index) number = entry_at (map revoked_of entries.items) (answer index number)

-- What is looked through: all entries of a list, or where an issuer is asked for, those of issuers with this text, where nothing hides one.
abbrev pub LooksThrough : TbsList → Option (List ℕ) → Search → Type 0
LooksThrough tbs None search = (number : ℕ) → found_in search number ≡ first_entry tbs.revoked_certificates number
LooksThrough tbs (Some text) search =
    (are_readable tbs.revoked_certificates ≡ true) × ((number : ℕ) → found_in search number ≡ first_entry (entries_under text tbs) number)
