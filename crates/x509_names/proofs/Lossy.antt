-- Names in which every value is shown: where each has a text, what is shown is the text of the name.
use Rattle.std.proofs.Common.{◌≡◌, ℕ, ◌++◌, true, List, [], ◌∷◌, map, Option, Some, None, is_some, unwrap_or, Result, Ok, Err, IfOk, refl, ap, ◌∙◌}
use Rattle.std.specs.Prelude.{codes, IsSome}
use Rattle.std.specs.Option.{option_map}
use Rattle.x509_names.specs.Names.{Attribute, Name}
use Rattle.x509_names.specs.NameTexts.{value_text, octets_text, type_text, join, all_some, attribute_text, lossy_attribute_text, relative_name_text, lossy_relative_name_text, name_text, lossy_name_text}

-- texts that are all there
pub all_there : {A B : Type 0} (f : A → B) (xs : List A) → all_some (map (λ x. Some (f x)) xs) ≡ Some (map f xs)
all_there f [] = refl
all_there f (x ∷ xs) = ap (option_map (λ ys. f x ∷ ys)) (all_there f xs)

one_there : {B : Type 0} (o : Option B) (os : List (Option B)) (y : B) (ys ts : List B) → ((t : B) → o ≡ Some t → y ≡ t) → ((us : List B) → all_some os ≡ Some us → ys ≡ us)
    → all_some (o ∷ os) ≡ Some ts → y ∷ ys ≡ ts
one_there None os y ys ts first rest e = absurd (cc)
one_there {B} (Some t) os y ys ts first rest e = both (all_some os) rest e where
  both : (o : Option (List B)) → ((us : List B) → o ≡ Some us → ys ≡ us) → option_map (λ us. t ∷ us) o ≡ Some ts → y ∷ ys ≡ ts
  both None rest e = absurd (cc)
  both (Some us) rest e = let same : y ≡ t = first t refl in let others : ys ≡ us = rest us refl in let all : t ∷ us ≡ ts = cc in rw (same, others) all

each_there : {A B : Type 0} (f : A → Option B) (g : A → B) → ((x : A) (t : B) → f x ≡ Some t → g x ≡ t) → (xs : List A) (ts : List B) → all_some (map f xs) ≡ Some ts → map g xs ≡ ts
each_there f g each [] ts e = cc
each_there f g each (x ∷ xs) ts e = one_there (f x) (map f xs) (g x) (map g xs) ts (each x) (each_there f g each xs) e

joined_there : (separator : List ℕ) (o : Option (List (List ℕ))) (ts : List (List ℕ)) (whole : List ℕ) → ((us : List (List ℕ)) → o ≡ Some us → ts ≡ us)
    → option_map (join separator) o ≡ Some whole → join separator ts ≡ whole
joined_there separator None ts whole same e = absurd (cc)
joined_there separator (Some us) ts whole same e = let all : ts ≡ us = same us refl in let joined : join separator us ≡ whole = cc in rw all joined

value_whole : (label bad whole : List ℕ) (o : Option (List ℕ)) → option_map (λ value. label ++ codes "=" ++ value) o ≡ Some whole → label ++ codes "=" ++ unwrap_or o bad ≡ whole
value_whole label bad whole None e = absurd (cc)
value_whole label bad whole (Some value) e = cc

attribute_whole : (called : List ℕ → Option (List ℕ)) (a : Attribute) (whole : List ℕ) → attribute_text called a ≡ Some whole → lossy_attribute_text called a ≡ whole
attribute_whole called a whole e = value_whole (type_text called a.attr_type) (octets_text a.attr_value.contents) whole (value_text a.attr_value) e

relative_name_whole : (called : List ℕ → Option (List ℕ)) (attributes : List Attribute) (whole : List ℕ) → relative_name_text called attributes ≡ Some whole → lossy_relative_name_text called attributes ≡ whole
relative_name_whole called attributes whole e =
    joined_there (codes " + ") _ _ whole (each_there (attribute_text called) (lossy_attribute_text called) (attribute_whole called) attributes) e

pub name_whole : (called : List ℕ → Option (List ℕ)) (n : Name) (whole : List ℕ) → name_text called n ≡ Some whole → lossy_name_text called n ≡ whole
name_whole called n whole e =
    joined_there (codes ", ") _ _ whole (each_there (relative_name_text called) (lossy_relative_name_text called) (relative_name_whole called) n.relative) e

-- what is shown where a text is there
pub shown_whole : (o : Option (List ℕ)) (lossy bad : List ℕ) → ((whole : List ℕ) → o ≡ Some whole → lossy ≡ whole) → is_some o ≡ true → lossy ≡ unwrap_or o bad
shown_whole None lossy bad same e = absurd (cc)
shown_whole (Some whole) lossy bad same e = same whole refl

pub whole_there : (o : Option (List ℕ)) (lossy : List ℕ) → ((whole : List ℕ) → o ≡ Some whole → lossy ≡ whole) → is_some o ≡ true → o ≡ Some lossy
whole_there None lossy same e = absurd (cc)
whole_there (Some whole) lossy same e = let is : lossy ≡ whole = same whole refl in rw is refl

-- what was made of a text is what is shown, where a text is there
pub displayed : {S E : Type 0} (view : S → List ℕ) (r : Result S E) (o : Option (List ℕ)) (lossy bad : List ℕ) → ((whole : List ℕ) → o ≡ Some whole → lossy ≡ whole)
    → IfOk r (λ s. view s ≡ lossy) → IfOk r (λ s. IsSome o → view s ≡ unwrap_or o bad)
displayed view (Ok s) o lossy bad same made = λ there. made ∙ shown_whole o lossy bad same there
displayed view (Err e) o lossy bad same made = tt
