-- Texts that are joined one by one.
use Rattle.std.proofs.Common.{◌≡◌, ℕ, ◌+◌, ◌<◌, ◌==◌, ◌&&◌, Bool, true, false, List, [], ◌∷◌, ◌++◌, length, get_or, drop, map, fold, Option, Some, None, Ok, refl, sym, ap, ◌∙◌, length-append, arith}
use Rattle.std.specs.Prelude.{codes, if◌then◌else◌}
use Rattle.std.specs.Option.{option_map}
use Rattle.std.specs.Fmt.{HasWritten, DisplaysOnOk, IsPlainFormatter}
use Rattle.std.specs.declared.fmt.Formatter.{Formatter}
use Rattle.std.proofs.lemmas.Bool.Decides.{nat_tests}
use Rattle.std.proofs.lemmas.List.{at_drop_more}
use Rattle.std.proofs.Output.{has_written_append, has_written_of_eq}
use Rattle.x509_names.specs.Names.{Attribute}
use Rattle.x509_names.specs.NameTexts.{joined, join, all_some, type_text, lossy_value_text, lossy_attribute_text, lossy_relative_name_text}
use Rattle.x509_names.proofs.Lossy.{all_there}
use Rattle.x509_names.proofs.Written.{nothing_written, writes_some}

-- the texts of some things, seen by g, behind the text so far
abbrev pub joining : {X Y : Type 0} → (Y → Option (List ℕ)) → (X → Y) → List ℕ → List ℕ → List X → Option (List ℕ)
joining f g separator so_far xs = option_map (fold (joined separator) so_far) (all_some (map f (map g xs)))

first_text : (separator done whole : List ℕ) (o : Option (List ℕ)) (os : List (Option (List ℕ))) → option_map (fold (joined separator) done) (all_some (o ∷ os)) ≡ Some whole
    → (text : List ℕ) × (o ≡ Some text) × (option_map (fold (joined separator) (joined separator done text)) (all_some os) ≡ Some whole)
first_text separator done whole None os e = absurd (cc)
first_text separator done whole (Some text) os e = (text, refl, behind_first (all_some os) e) where
  behind_first : (o : Option (List (List ℕ))) → option_map (fold (joined separator) done) (option_map (λ texts. text ∷ texts) o) ≡ Some whole
      → option_map (fold (joined separator) (joined separator done text)) o ≡ Some whole
  behind_first None e = absurd (cc)
  behind_first (Some texts) e = e

-- ---- where text stands

no_more : (x : ℕ) (xs : List ℕ) → (length (x ∷ xs) == 0) ≡ false
no_more x xs = grind (arith, nat_tests)

-- what is written behind some text is what joins it
separated : (separator done text : List ℕ) → (done ++ (if length done == 0 then [] else separator)) ++ text ≡ joined separator done text
separated separator [] text = refl
separated separator (x ∷ xs) text = rw (no_more x xs) refl

-- a joined text is empty where both are
empty_joined : (separator done text : List ℕ) → (length (joined separator done text) == 0) ≡ (length done == 0 && length text == 0)
empty_joined separator [] text = refl
empty_joined separator (x ∷ xs) text = rw (no_more x xs) (no_more x (xs ++ separator ++ text))

-- texts that are all there
pub joining_all : {X Y : Type 0} (f : Y → List ℕ) (g : X → Y) (separator so_far : List ℕ) (xs : List X)
    → joining (λ y. Some (f y)) g separator so_far xs ≡ Some (fold (joined separator) so_far (map f (map g xs)))
joining_all f g separator so_far xs = ap (option_map (fold (joined separator) so_far)) (all_there f (map g xs))

-- ---- loops that write

-- the first texts are written, and with those that are left they make the whole
pub record IsJoined {W X Y : Type 0} (took : W → List ℕ → W → Type 0) (f g : Formatter W) (nothing_yet : Bool) (texts : Y → Option (List ℕ)) (view : X → Y) (separator : List ℕ) (left : List X) (whole : List ℕ) : Type 0 where
  pub done : List ℕ
  pub written : HasWritten took f done g
  pub empty : (length done == 0) ≡ nothing_yet
  pub rest : joining texts view separator done left ≡ Some whole

module _ {W X Y : Type 0} (took : W → List ℕ → W → Type 0) (texts : Y → Option (List ℕ)) (view : X → Y) (separator whole : List ℕ) (f : Formatter W) where
  pub none_joined : (left : List X) → IsPlainFormatter f → joining texts view separator [] left ≡ Some whole → IsJoined took f f true texts view separator left whole
  none_joined left plain rest = record { done = []; written = nothing_written took f plain; empty = refl; rest = rest }

  -- one more text, behind its separator
  pub one_joined : (g h k : Formatter W) (nothing_yet after : Bool) (empty : Y → Bool) (items : List X) (i : ℕ) (x d : X) → i < length items → x ≡ get_or items i d
      → IsJoined took f g nothing_yet texts view separator (drop i items) whole
      → (IsPlainFormatter g → HasWritten took g (if nothing_yet then [] else separator) h)
      → DisplaysOnOk took h (Ok tt) (texts (view x)) k
      → ((y : Y) (text : List ℕ) → texts y ≡ Some text → (length text == 0) ≡ empty y)
      → (nothing_yet && empty (view x)) ≡ after
      → IsJoined took f k after texts view separator (drop (i + 1) items) whole
  one_joined g h k nothing_yet after empty items i x d more at so_far separating writing emptiness both =
      let next : joining texts view separator so_far.done (x ∷ drop (i + 1) items) ≡ Some whole =
      ap (λ y. joining texts view separator so_far.done (y ∷ drop (i + 1) items)) at ∙ sym (at_drop_more (joining texts view separator so_far.done) items i d more) ∙ so_far.rest in
      let (text, is, rest) = first_text separator so_far.done whole (texts (view x)) (map texts (map view (drop (i + 1) items))) next in
      let separate = separating so_far.written.plain in
      let wrote = writes_some took _ _ (Ok tt) _ text is writing separate.plain refl in
      let all = has_written_append took _ _ _ _ _ (has_written_append took _ _ _ _ _ so_far.written separate) wrote in
      let same : (so_far.done ++ (if nothing_yet then [] else separator)) ++ text ≡ joined separator so_far.done text =
      rw (← so_far.empty) (separated separator so_far.done text) in
      record {
        done = joined separator so_far.done text;
        written = has_written_of_eq took _ _ _ _ same all;
        empty = empty_joined separator so_far.done text ∙ ap (λ b. b && length text == 0) so_far.empty ∙ ap (λ b. nothing_yet && b) (emptiness (view x) text is) ∙ both;
        rest = rest;
      }

  some_same : (a b : List ℕ) → Some a ≡ Some b → a ≡ b
  some_same a b e = cc

  pub all_joined : (g : Formatter W) (nothing_yet : Bool) → IsJoined took f g nothing_yet texts view separator [] whole → HasWritten took f whole g
  all_joined g nothing_yet so_far = has_written_of_eq took _ _ _ _ (some_same _ _ so_far.rest) so_far.written

-- ---- texts that are empty

-- what is not empty stays so
fold_more : (separator done : List ℕ) (texts : List (List ℕ)) → (length done == 0) ≡ false → (length (fold (joined separator) done texts) == 0) ≡ false
fold_more separator done [] more = more
fold_more separator done (text ∷ texts) more =
    fold_more separator (joined separator done text) texts (empty_joined separator done text ∙ ap (λ b. b && length text == 0) more)

-- a text that is joined from texts none of which is empty is empty where they are none
pub empty_join : {A : Type 0} (f : A → Option (List ℕ)) (separator : List ℕ) → ((x : A) (text : List ℕ) → f x ≡ Some text → (length text == 0) ≡ false)
    → (xs : List A) (whole : List ℕ) → option_map (join separator) (all_some (map f xs)) ≡ Some whole → (length whole == 0) ≡ (length xs == 0)
empty_join f separator each [] whole e = let same : [] ≡ whole = cc in rw (← same) refl
empty_join f separator each (x ∷ xs) whole e =
    let (text, is, rest) = first_text separator [] whole (f x) (map f xs) e in
    let none : (length (x ∷ xs) == 0) ≡ false = grind (arith, nat_tests) in
    grown (all_some (map f xs)) text (each x text is) rest ∙ sym none where
      grown : (o : Option (List (List ℕ))) (text : List ℕ) → (length text == 0) ≡ false → option_map (fold (joined separator) text) o ≡ Some whole → (length whole == 0) ≡ false
      grown None text more e = absurd (cc)
      grown (Some texts) text more e = let same : fold (joined separator) text texts ≡ whole = cc in rw (← same) (fold_more separator text texts more)

pub and_false : (b : Bool) → (b && false) ≡ false
and_false true = refl
and_false false = refl

with_sign : (label value text : List ℕ) → Some (label ++ codes "=" ++ value) ≡ Some text → (length text == 0) ≡ false
with_sign label value text e =
    let same : label ++ codes "=" ++ value ≡ text = cc in
    rw (← same) (grind (arith, nat_tests, length-append (label ++ codes "=") value, length-append label (codes "=")))

-- what has `=` in it is not empty
pub attribute_not_empty : (called : List ℕ → Option (List ℕ)) (a : Attribute) (text : List ℕ) → Some (lossy_attribute_text called a) ≡ Some text → (length text == 0) ≡ false
attribute_not_empty called a text e = with_sign (type_text called a.attr_type) (lossy_value_text a.attr_value) text e

-- a relative name's text is empty where it has no attributes
pub relative_name_empty : (called : List ℕ → Option (List ℕ)) (attributes : List Attribute) (text : List ℕ) → Some (lossy_relative_name_text called attributes) ≡ Some text → (length text == 0) ≡ (length attributes == 0)
relative_name_empty called attributes text e =
    empty_join (λ a. Some (lossy_attribute_text called a)) (codes " + ") (attribute_not_empty called) attributes text
    (ap (option_map (join (codes " + "))) (all_there (lossy_attribute_text called) attributes) ∙ e)
