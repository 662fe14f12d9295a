-- Where reading stands among the lines of an object.
use Rattle.std.specs.Prelude.{ℕ, List, [], ◌∷◌, Option, Some, None, option_map}
use Rattle.x509_elements.specs.Elements.{Line}
use Rattle.x509_elements.specs.Walks.{window}
use Rattle.x509_elements.specs.declared.refused.reading.Reading.{Reading}
use Rattle.x509_elements.specs.declared.refused.value.Contents.{Contents}
use Rattle.x509_elements.specs.declared.refused.value.Value.{Value as RustValue}
use Rattle.x509_elements.specs.Values.{Value, outside, values_behind}

abbrev pub octets_in : List ℕ → Contents → List ℕ
octets_in octets c = window octets c.at c.end

abbrev pub value_of : List ℕ → RustValue → Value
value_of octets v = record { id = octets_in octets v.id; at = v.contents.at; octets = octets_in octets v.contents }

-- those of a line: one, or none
abbrev pub found : List ℕ → Option RustValue → List Value
found octets None = []
found octets (Some v) = value_of octets v ∷ []

-- the values that these lines hold, behind those that were read
abbrev pub values_left : List ℕ → Reading → List Line → List Value
values_left octets r ls = values_behind octets (option_map (octets_in octets) r.id) (outside r.from ls)
