-- Entries by the text of their issuers' names (RFC 5280, 5.1.2.3 and 5.3.3).
use Rattle.std.specs.Prelude.{◌&&◌, ℕ, Bool, true, false, List, [], ◌∷◌, cond}
use Rattle.std.specs.List.{list_any}
use Rattle.std.specs.Str.{bytes_eq}
use Rattle.x509_general_names.specs.GeneralName.{GeneralNameValue, DirectoryName}
use Rattle.x509_lists.specs.EntryIssuers.{Said, nothing, names, unreadable, said_by}
use Rattle.x509_lists.specs.RevokedCertificate.{Revoked}
use Rattle.x509_lists.specs.TbsCertList.{TbsList}
use Rattle.x509_names.specs.Names.{Name}
use Rattle.x509_names.specs.NameTexts.{shown_name}

-- ---- what an entry says of its issuer

abbrev pub has_text : List ℕ → Name → Bool
has_text text name = bytes_eq (shown_name name) text

-- a directory name that is shown as this text
abbrev pub is_named : List ℕ → GeneralNameValue → Bool
is_named text (DirectoryName name) = has_text text name
is_named text _ = false

-- Whether an entry is of an issuer with this text, where the entry before it is, or isn't: it is of the names that it says, and where it says
-- nothing, of the issuer of the entry before it (5.3.3).
abbrev pub is_under : List ℕ → Bool → Said → Bool
is_under text before nothing = before
is_under text before (names said) = list_any (is_named text) said
is_under text before unreadable = false

-- ---- whether that can be read

abbrev pub is_readable : Said → Bool
is_readable nothing = true
is_readable (names said) = true
is_readable unreadable = false

-- what each of them says of its issuer can be read
abbrev pub are_readable : List Revoked → Bool
are_readable [] = true
are_readable (entry ∷ entries) = is_readable (said_by entry.extensions) && are_readable entries

-- ---- the entries of a list

abbrev pub under : List ℕ → Bool → List Revoked → List Revoked
under text before [] = []
under text before (entry ∷ entries) =
    let now = is_under text before (said_by entry.extensions) in
    cond now (entry ∷ under text now entries) (under text now entries)

-- those of issuers with this text, in the list's order; before the first entry stands the list's own issuer
abbrev pub entries_under : List ℕ → TbsList → List Revoked
entries_under text tbs = under text (has_text text tbs.issuer) tbs.revoked_certificates
