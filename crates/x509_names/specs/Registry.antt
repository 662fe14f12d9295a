-- Registries of identifiers: a short name and a description for each.
use Rattle.std.specs.Prelude.{◌≡◌, ℕ, List, Option, Some, if◌then◌else◌}
use Rattle.std.specs.HashMap.{get_by}
use Rattle.std.specs.List.{find}
use Rattle.std.specs.Option.{option_map, option_or}
use Rattle.std.specs.Str.{bytes_eq}
use Rattle.x509_der.specs.Oid.{oid_bytes}
use Rattle.x509_names.specs.declared.registry.OidEntry.{OidEntry}
use Rattle.x509_names.specs.declared.registry.OidRegistry.{OidRegistry}
use Rattle.x509_names.specs.Objects.{Row, abbreviation, described, short_names}

pub record Entry : Type 0 where
  pub short_name : List ℕ
  pub description : List ℕ

abbrev pub entry_of : OidEntry → Entry
entry_of e = record { short_name = e.sn.now; description = e.description.now }

-- what the registry has for the identifier with these octets
abbrev pub registered : OidRegistry → List ℕ → Option Entry
registered r octets = option_map entry_of (get_by (λ id. bytes_eq octets (oid_bytes id)) r.entries)

-- b has the entry for the identifier, and for each other what a has
abbrev pub Registers : OidRegistry → List ℕ → Entry → OidRegistry → Type 0
Registers a id entry b = (octets : List ℕ) → registered b octets ≡ (if bytes_eq id octets then Some entry else registered a octets)

-- b has for each identifier what a has
abbrev pub SaysTheSame : OidRegistry → OidRegistry → Type 0
SaysTheSame a b = (octets : List ℕ) → registered b octets ≡ registered a octets

-- what a row says of its identifier
abbrev pub row_entry : Row → Entry
row_entry r = record { short_name = r.1; description = described r.0 r.1 }

-- the first row with these octets
abbrev pub entry_in : List Row → List ℕ → Option Entry
entry_in rows octets = option_map row_entry (find (λ r. bytes_eq r.0 octets) rows)

-- what is known here of the identifier with these octets
unfoldable pub known : List ℕ → Option Entry
known octets = entry_in short_names octets

abbrev pub short_name_in : OidRegistry → List ℕ → Option (List ℕ)
short_name_in r octets = option_map (λ e. e.short_name) (registered r octets)

abbrev pub description_in : OidRegistry → List ℕ → Option (List ℕ)
description_in r octets = option_map (λ e. e.description) (registered r octets)

-- the abbreviation of an identifier, else its short name in the registry
abbrev pub name_by : OidRegistry → List ℕ → Option (List ℕ)
name_by r octets = option_or (abbreviation octets) (short_name_in r octets)
