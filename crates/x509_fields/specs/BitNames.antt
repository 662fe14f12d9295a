-- The names of the bits that are set, one after another.
use Rattle.std.specs.Prelude.{ℕ, List, map}
use Rattle.x509_fields.specs.Texts.{set_names}
use Rattle.x509_fields.specs.declared.bit_names.BitNames.{BitNames}

-- those that are still to come
abbrev pub names_left : BitNames → List (List ℕ)
names_left b = set_names (map (λ name. name.now) b.names.now) b.flags
