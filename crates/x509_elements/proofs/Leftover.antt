-- What is refused of the lines that are left.
use Rattle.std.proofs.Common.{◌≡◌, ℕ, List, [], ◌++◌, flat_map, sym, ap, ◌∙◌}
use Rattle.x509_elements.specs.Elements.{Line, elements_of}
use Rattle.x509_elements.specs.Findings.{refused_left}
use Rattle.x509_elements.specs.Readings.{values_left}
use Rattle.x509_elements.specs.RefusedValues.{refused_of, refused_values}
use Rattle.x509_elements.specs.Values.{values_in}
use Rattle.x509_elements.specs.declared.refused.reading.Reading.{Reading}
use Rattle.x509_elements.specs.declared.refused.refused_value.RefusedValue.{RefusedValue}
use Rattle.x509_elements.specs.declared.part.Part.{Part}

-- before the first line
pub all_at_first : (object : Part) (octets : List ℕ) (reading : Reading) (lines : List Line) (found : List RefusedValue) → lines ≡ elements_of object octets
    → values_left octets reading (elements_of object octets) ≡ values_in octets (elements_of object octets) → found ≡ []
    → refused_values object octets ≡ found ++ refused_left octets reading lines
unfolding refused_values
all_at_first object octets reading lines found same begins none =
    ap (λ vs. flat_map refused_of vs) (sym begins)
    ∙ ap (refused_left octets reading) (sym same)
    ∙ ap (λ (vs : List RefusedValue). vs ++ refused_left octets reading lines) (sym none)
