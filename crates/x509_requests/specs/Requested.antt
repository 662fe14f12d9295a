-- What the extensions say that a request asks for.
use Rattle.std.specs.Prelude.{List, [], ◌∷◌, map, Option, Some, None}
use Rattle.std.specs.Slice.Iter.{iter_rest}
use Rattle.x509_extensions.specs.declared.parsed.ParsedExtension.{ParsedExtension}
use Rattle.x509_requests.specs.declared.cri_attribute.X509CriAttribute.{X509CriAttribute}
use Rattle.x509_requests.specs.declared.cri_attribute.ParsedCriAttribute.{ParsedCriAttribute}
use Rattle.x509_requests.specs.declared.cri_attribute.ParsedCriAttribute.TheVariants as variants
use Rattle.x509_requests.specs.declared.requested_iter.RequestedIter.{RequestedIter}

-- what an attribute's extensions say, where it asks for some
abbrev pub requested_in : ParsedCriAttribute → Option (List ParsedExtension)
requested_in (variants.ExtensionRequest r) = Some (map (λ x. x.parsed_extension) r.extensions)
requested_in _ = None

abbrev pub or_else : Option (List ParsedExtension) → Option (List ParsedExtension) → Option (List ParsedExtension)
or_else (Some xs) behind = Some xs
or_else None behind = behind

-- those of the first attribute that asks for extensions
abbrev pub first_requested : List X509CriAttribute → Option (List ParsedExtension)
first_requested [] = None
first_requested (a ∷ rest) = or_else (requested_in a.parsed_attribute) (first_requested rest)

-- what an iterator over them still gives
abbrev pub requested_left : RequestedIter → List ParsedExtension
requested_left s = map (λ x. x.parsed_extension) (iter_rest s.extensions)
