-- The attributes of a name one after another.
use Rattle.std.proofs.Common.{◌≡◌, List, [], ◌∷◌, ◌++◌, map, append_assoc, append-nil, refl, ap, sym, ◌∙◌}
use Rattle.std.specs.Borrow.{Bor}
use Rattle.std.specs.List.{flat_map}
use Rattle.std.proofs.lemmas.List.{map-append}
use Rattle.std.proofs.lemmas.List.Concat.{flat_map-append}
use Rattle.std.proofs.lemmas.List.Folds.{flat_map-map}
use Rattle.x509_names.specs.declared.name.AttributeTypeAndValue.{AttributeTypeAndValue}
use Rattle.x509_names.specs.declared.name.RelativeDistinguishedName.{RelativeDistinguishedName}
use Rattle.x509_names.specs.Names.{attribute_of, relative_name_of, attributes_in}
use Rattle.x509_validators.specs.Message.{Message}
use Rattle.x509_validators.specs.Names.{attribute_warnings}

abbrev pub warnings_at : AttributeTypeAndValue → List Message
warnings_at a = attribute_warnings (attribute_of a)

abbrev pub warnings_seen : Bor AttributeTypeAndValue → List Message
warnings_seen a = warnings_at a.now

of_attributes : (rs : List RelativeDistinguishedName) → flat_map (λ r. flat_map attribute_warnings r) (map relative_name_of rs) ≡ flat_map warnings_at (attributes_in rs)
of_attributes [] = refl
of_attributes (r ∷ rs) =
    ap (λ ms. flat_map attribute_warnings (relative_name_of r) ++ ms) (of_attributes rs)
    ∙ ap (λ ms. ms ++ flat_map warnings_at (attributes_in rs)) (flat_map-map attribute_warnings attribute_of r.set)
    ∙ sym (flat_map-append warnings_at r.set (attributes_in rs))

-- those of the attributes that were seen, and of those that are left
pub seen_and_left : (rs : List RelativeDistinguishedName) (seen : List (Bor AttributeTypeAndValue)) (left : List AttributeTypeAndValue) → attributes_in rs ≡ map (λ a. a.now) seen ++ left → flat_map (λ r. flat_map attribute_warnings r) (map relative_name_of rs) ≡ flat_map warnings_seen seen ++ flat_map warnings_at left
seen_and_left rs seen left is =
    of_attributes rs ∙ ap (flat_map warnings_at) is ∙ flat_map-append warnings_at (map (λ a. a.now) seen) left
    ∙ ap (λ ms. ms ++ flat_map warnings_at left) (flat_map-map warnings_at (λ a. a.now) seen)

-- one attribute more was seen
pub one_more_seen : {A : Type 0} (all left rest : List A) (seen : List (Bor A)) (x : Bor A) → all ≡ map (λ a. a.now) seen ++ left → left ≡ x.now ∷ rest → all ≡ map (λ a. a.now) (seen ++ x ∷ []) ++ rest
one_more_seen all left rest seen x is next =
    is ∙ ap (λ l. map (λ a. a.now) seen ++ l) next
    ∙ sym (ap (λ l. l ++ rest) (map-append (λ a. a.now) seen (x ∷ [])) ∙ append_assoc (map (λ a. a.now) seen) (x.now ∷ []) rest)

-- all attributes were seen
pub all_seen : (rs : List RelativeDistinguishedName) (seen : List (Bor AttributeTypeAndValue)) (left : List AttributeTypeAndValue) → attributes_in rs ≡ map (λ a. a.now) seen ++ left → left ≡ [] → flat_map (λ r. flat_map attribute_warnings r) (map relative_name_of rs) ≡ flat_map warnings_seen seen
all_seen rs seen left is none = seen_and_left rs seen [] (is ∙ ap (λ l. map (λ a. a.now) seen ++ l) none) ∙ append-nil (flat_map warnings_seen seen)
