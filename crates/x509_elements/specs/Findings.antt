-- What is refused of the lines that are left.
use Rattle.std.specs.Prelude.{ℕ, List, flat_map}
use Rattle.x509_elements.specs.Elements.{Line}
use Rattle.x509_elements.specs.declared.refused.reading.Reading.{Reading}
use Rattle.x509_elements.specs.declared.refused.refused_value.RefusedValue.{RefusedValue}
use Rattle.x509_elements.specs.Readings.{values_left}
use Rattle.x509_elements.specs.RefusedValues.{refused_of}

abbrev pub refused_left : List ℕ → Reading → List Line → List RefusedValue
refused_left octets r ls = flat_map refused_of (values_left octets r ls)
