-- The values of an object's extensions that the readers of their kinds refuse (RFC 5280, 4.2), and where in the object.
use Rattle.std.specs.Prelude.{ℕ, ◌+◌, List, [], ◌∷◌, Option, Some, None, flat_map, length}
use Rattle.x509_der.specs.declared.error.Located.{Located}
use Rattle.x509_elements.specs.Elements.{elements_of}
use Rattle.x509_extensions.specs.Refusals.{value_refusal}
use Rattle.x509_fields.specs.declared.error.X509Error.{X509Error}
use Rattle.x509_elements.specs.declared.refused.refused_value.RefusedValue.{RefusedValue}
use Rattle.x509_elements.specs.Values.{Value, values_in}
use Rattle.x509_elements.specs.declared.part.Part.{Part}

-- at the octet of the value at which it is refused, behind those that stand before the value
abbrev pub refused_by : Value → Option (Located X509Error) → List RefusedValue
refused_by v None = []
refused_by v (Some e) = record { at = v.at + e.at; why = e.why; value_at = v.at; value_size = length v.octets } ∷ []

abbrev pub refused_of : Value → List RefusedValue
refused_of v = refused_by v (value_refusal v.id v.octets)

-- Of the object at the front of the octets, which is such a part, each value that is refused, in order.
unfoldable pub refused_values : Part → List ℕ → List RefusedValue
refused_values object octets = flat_map refused_of (values_in octets (elements_of object octets))
