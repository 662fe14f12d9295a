-- Names as C sees them.
use Rattle.std.specs.Prelude.{◌≡◌, ℕ}
use Rattle.x509_names.specs.Names.{Attribute}
use Rattle.x509_c.specs.declared.names.AttributeRow.{AttributeRow}

-- its identifier, the contents of its value, the number of the value's tag, and the number of the relative name that it stands in
pub record IsAttributeRow (row : AttributeRow) (placed : ℕ × Attribute) : Type 0 where
  pub oid : row.oid.now ≡ placed.1.attr_type
  pub value : row.value.now ≡ placed.1.attr_value.contents
  pub relative : row.relative ≡ placed.0
  pub tag : row.tag ≡ placed.1.attr_value.header.tag.0
