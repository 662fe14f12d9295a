-- The field that an element stands as, of those from a number on.
use Rattle.std.proofs.Common.{◌≡◌, ℕ, ◌<◌, ◌+◌, Bool, true, false, List, ◌∷◌, Option, Some, map, drop, get_or, length, if◌then◌else◌, sym, ap, ◌∙◌, refl}
use Rattle.std.proofs.lemmas.List.{drop_more}
use Rattle.x509_der.specs.declared.header.Header.{Header}
use Rattle.x509_elements.specs.Fields.{Field, Chosen, behind, chosen, fits, is_each}

fields_from : {T : Type 0} (view : T → Field) (fields : List T) (k : ℕ) (d : T) → k < length fields → map view (drop k fields) ≡ view (get_or fields k d) ∷ map view (drop (k + 1) fields)
fields_from view fields k d within = ap (map view) (drop_more fields k d within)

first_of : (fit each : Bool) (f : Field) (fs : List Field) (others : Option Chosen) → fit ≡ true → (if fit then Some (f, if each then f ∷ fs else fs) else others) ≡ Some (f, if each then f ∷ fs else fs)
first_of true each f fs others is = refl
first_of false each f fs others is = absurd cc

pub chosen_here : {T : Type 0} (view : T → Field) (fields : List T) (k : ℕ) (d : T) (h : Header) → k < length fields → fits (view (get_or fields k d)).stands h ≡ true
    → chosen (map view (drop k fields)) h ≡ Some (view (get_or fields k d), behind (view (get_or fields k d)) (map view (drop (k + 1) fields)))
chosen_here view fields k d h within fit =
    let f = view (get_or fields k d) in
    ap (λ fs. chosen fs h) (fields_from view fields k d within)
    ∙ first_of (fits f.stands h) (is_each f.stands) f (map view (drop (k + 1) fields)) (chosen (map view (drop (k + 1) fields)) h) fit

kept_by : (each : Bool) (f : Field) (fs : List Field) → each ≡ true → (if each then f ∷ fs else fs) ≡ f ∷ fs
kept_by true f fs is = refl
kept_by false f fs is = absurd cc

left_by : (each : Bool) (f : Field) (fs : List Field) → each ≡ false → (if each then f ∷ fs else fs) ≡ fs
left_by true f fs is = absurd cc
left_by false f fs is = refl

-- one of any number stays
pub chosen_each : {T : Type 0} (view : T → Field) (fields : List T) (k : ℕ) (d : T) (h : Header) → k < length fields → fits (view (get_or fields k d)).stands h ≡ true → is_each (view (get_or fields k d)).stands ≡ true
    → chosen (map view (drop k fields)) h ≡ Some (view (get_or fields k d), map view (drop k fields))
chosen_each view fields k d h within fit each =
    let f = view (get_or fields k d) in
    chosen_here view fields k d h within fit
    ∙ ap (λ (fs : List Field). Some (f, fs)) (kept_by (is_each f.stands) f (map view (drop (k + 1) fields)) each ∙ sym (fields_from view fields k d within))

pub chosen_once : {T : Type 0} (view : T → Field) (fields : List T) (k : ℕ) (d : T) (h : Header) → k < length fields → fits (view (get_or fields k d)).stands h ≡ true → is_each (view (get_or fields k d)).stands ≡ false
    → chosen (map view (drop k fields)) h ≡ Some (view (get_or fields k d), map view (drop (k + 1) fields))
chosen_once view fields k d h within fit each =
    let f = view (get_or fields k d) in
    chosen_here view fields k d h within fit
    ∙ ap (λ (fs : List Field). Some (f, fs)) (left_by (is_each f.stands) f (map view (drop (k + 1) fields)) each)
