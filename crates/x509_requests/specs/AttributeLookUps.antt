-- What the look-ups of attributes answer.
use Rattle.std.specs.Prelude.{ℕ, Bool, List, Result}
use Rattle.std.specs.Borrow.{Bor}
use Rattle.std.specs.HashMap.{HashMap}
use Rattle.x509_der.specs.declared.oid.Oid.{Oid}
use Rattle.x509_fields.specs.declared.error.X509Error.{X509Error}
use Rattle.x509_fields.specs.declared.error.X509Error.TheVariants.{DuplicateAttributes}
use Rattle.x509_extensions.specs.Lookups.{MapsEach, has_id}
use Rattle.x509_requests.specs.declared.cri_attribute.X509CriAttribute.{X509CriAttribute}

-- whether the attribute has this identifier
abbrev pub has_type : List ℕ → X509CriAttribute → Bool
has_type id = has_id (λ x. x.oid) id

-- What a map of attributes by their identifiers promises.
abbrev pub MapsAttributes : {S : Type 0} → List X509CriAttribute → Result (HashMap Oid (Bor X509CriAttribute) S) X509Error → Type 0
MapsAttributes attributes result = MapsEach (λ x. x.oid) DuplicateAttributes attributes result
