-- General names as C sees them.
use Rattle.std.specs.Prelude.{◌≡◌, ℕ, List, []}
use Rattle.x509_general_names.specs.GeneralName.{GeneralNameValue, OtherName, RFC822Name, DNSName, X400Address, DirectoryName, EDIPartyName, URI, IPAddress, RegisteredID, Invalid}
use Rattle.x509_c.specs.declared.general_names.GeneralNameRow.{GeneralNameRow}

-- the number of the name's tag (RFC 5280, 4.2.1.6)
abbrev pub name_tag : GeneralNameValue → ℕ
name_tag (OtherName id value) = 0
name_tag (RFC822Name text) = 1
name_tag (DNSName text) = 2
name_tag (X400Address address) = 3
name_tag (DirectoryName name) = 4
name_tag (EDIPartyName party) = 5
name_tag (URI text) = 6
name_tag (IPAddress octets) = 7
name_tag (RegisteredID id) = 8
name_tag (Invalid tag contents) = tag

-- 1 where the contents can be read, and else 0
abbrev pub name_readable : GeneralNameValue → ℕ
name_readable (Invalid tag contents) = 0
name_readable _ = 1

-- the identifier of the form of another name
abbrev pub name_id : GeneralNameValue → List ℕ
name_id (OtherName id value) = id
name_id _ = []

-- the octets of the name
abbrev pub name_octets : GeneralNameValue → List ℕ
name_octets (OtherName id value) = value
name_octets (RFC822Name text) = text
name_octets (DNSName text) = text
name_octets (X400Address address) = address.contents
name_octets (DirectoryName name) = name.raw
name_octets (EDIPartyName party) = party.contents
name_octets (URI text) = text
name_octets (IPAddress octets) = octets
name_octets (RegisteredID id) = id
name_octets (Invalid tag contents) = contents

pub record IsGeneralNameRow (row : GeneralNameRow) (name : GeneralNameValue) : Type 0 where
  pub tag : row.tag ≡ name_tag name
  pub readable : row.readable ≡ name_readable name
  pub id : row.id.now ≡ name_id name
  pub value : row.value.now ≡ name_octets name
