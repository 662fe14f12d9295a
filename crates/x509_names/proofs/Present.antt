-- Names whose texts are all there.
use Rattle.std.proofs.Common.{◌≡◌, ℕ, ◌&&◌, Bool, true, false, List, [], ◌∷◌, map, Option, Some, None, is_some, unwrap_or, refl, ap, ◌∙◌}
use Rattle.std.specs.List.{list_all}
use Rattle.x509_names.specs.Names.{Attribute, Name}
use Rattle.x509_names.specs.NameTexts.{all_some, value_text, attribute_text, relative_name_text, have_texts, name_text}
use Rattle.x509_names.proofs.Written.{is_some-option_map}

one_there : {A : Type 0} (o : Option A) (os : List (Option A)) → is_some (all_some (o ∷ os)) ≡ (is_some o && is_some (all_some os))
one_there None os = refl
one_there (Some x) os = is_some-option_map _ (all_some os)

all_there : {A B : Type 0} (f : A → Option B) (test : A → Bool) → ((x : A) → is_some (f x) ≡ test x) → (xs : List A) → is_some (all_some (map f xs)) ≡ list_all test xs
all_there f test each [] = refl
all_there f test each (x ∷ xs) =
    one_there (f x) (map f xs) ∙ ap (λ b. b && is_some (all_some (map f xs))) (each x) ∙ ap (λ b. test x && b) (all_there f test each xs)

relative_name_there : (called : List ℕ → Option (List ℕ)) (attributes : List Attribute) → is_some (relative_name_text called attributes) ≡ have_texts attributes
relative_name_there called attributes =
    is_some-option_map _ (all_some (map (attribute_text called) attributes))
    ∙ all_there (attribute_text called) (λ a. is_some (value_text a.attr_value)) (λ a. is_some-option_map _ (value_text a.attr_value)) attributes

-- a name has a text where each value has one, whatever types are called
pub name_there : (called : List ℕ → Option (List ℕ)) (n : Name) → is_some (name_text called n) ≡ list_all have_texts n.relative
name_there called n =
    is_some-option_map _ (all_some (map (relative_name_text called) n.relative))
    ∙ all_there (relative_name_text called) have_texts (relative_name_there called) n.relative

-- what is shown where a text is there, and where none is
pub shown : (o : Option (List ℕ)) (bad : List ℕ) → is_some o ≡ true → o ≡ Some (unwrap_or o bad)
shown None bad e = absurd (cc)
shown (Some text) bad e = refl

pub not_shown : (o : Option (List ℕ)) (bad : List ℕ) → is_some o ≡ false → unwrap_or o bad ≡ bad
not_shown None bad e = refl
not_shown (Some text) bad e = absurd (cc)

pub not_there : (o : Option (List ℕ)) → is_some o ≡ false → o ≡ None
not_there None e = refl
not_there (Some text) e = absurd (cc)
