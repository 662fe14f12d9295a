-- Identifiers of members, and a set of those that were seen.
use Rattle.std.proofs.Common.{◌≡◌, ℕ, ◌+◌, ◌<◌, Bool, true, false, cond, ◌||◌, List, [], ◌∷◌, ◌++◌, length, map, get_or, take, arith, refl, ap, subst, sym, ◌∙◌}
use Rattle.std.specs.BTreeMap.{is_at}
use Rattle.std.specs.BTreeSet.{BTreeSet, contains}
use Rattle.std.specs.Str.{bytes_eq}
use Rattle.std.proofs.lemmas.List.{take_more, map-append}
use Rattle.std.proofs.lemmas.List.Folds.{list_any-append}
use Rattle.std.proofs.lemmas.Map.Text.{is_eq-slice_cmp}
use Rattle.x509_der.specs.declared.oid.Oid.{Oid}
use Rattle.x509_der.specs.Oid.{oid_bytes}
use Rattle.x509_validators.specs.Message.{Message, Logged, error_if}
use Rattle.x509_fields.specs.Steps.{Took}
use Rattle.x509_fields.proofs.Steps.{Took-none}
use Rattle.x509_values.specs.ExtendedKeyUsage.{oid_cmp}
use Rattle.x509_validators.specs.Duplicates.{IsSetOf, is_among, is_new, repeat_error, repeat_errors, all_distinct}

-- what is read of the views of members
pub map-viewed : {A V W : Type 0} (f : V → W) (view : A → V) (xs : List A) → map f (map view xs) ≡ map (λ x. f (view x)) xs
map-viewed f view [] = refl
map-viewed f view (x ∷ xs) = ap (λ ys. f (view x) ∷ ys) (map-viewed f view xs)

-- ---- a set of identifiers

added : (b c : Bool) → cond b true c ≡ (c || (b || false))
added true true = refl
added true false = refl
added false true = refl
added false false = refl

-- one identifier more
pub IsSetOf-more : (ids : List (List ℕ)) (old new : BTreeSet Oid) (id : Oid) → IsSetOf ids old → ((q : Oid) → contains oid_cmp new q ≡ cond (is_at (oid_cmp id) q) true (contains oid_cmp old q)) → IsSetOf (ids ++ oid_bytes id ∷ []) new
unfolding is_among
IsSetOf-more ids old new id were updates = λ q.
    updates q ∙ ap (λ b. cond b true (contains oid_cmp old q)) (is_eq-slice_cmp (oid_bytes id) (oid_bytes q)) ∙ ap (λ c. cond (bytes_eq (oid_bytes id) (oid_bytes q)) true c) (were q)
    ∙ added (bytes_eq (oid_bytes id) (oid_bytes q)) (is_among ids (oid_bytes q)) ∙ sym (list_any-append (λ other. bytes_eq other (oid_bytes q)) ids (oid_bytes id ∷ []))

-- those of a beginning, and of the next member, of which y is read
pub IsSetOf-item : {A : Type 0} (id_of : A → List ℕ) (xs : List A) (k : ℕ) (d : A) (y : List ℕ) (seen : BTreeSet Oid) → y ≡ id_of (get_or xs k d) → k < length xs → IsSetOf (map id_of (take k xs) ++ y ∷ []) seen → IsSetOf (map id_of (take (k + 1) xs)) seen
IsSetOf-item id_of xs k d y seen is h was =
    let joined : map id_of (take k xs) ++ y ∷ [] ≡ map id_of (take (k + 1) xs) = ap (λ z. map id_of (take k xs) ++ z ∷ []) is ∙ sym (map-append id_of (take k xs) (get_or xs k d ∷ [])) ∙ ap (map id_of) (sym (take_more xs k d h)) in
    let P : List (List ℕ) → Type 0 = λ ids. IsSetOf ids seen in
    subst P joined was

-- ---- one member alone

pub alone-distinct : {A : Type 0} (f : A → List ℕ) (xs : List A) → length xs < 2 → true ≡ all_distinct (map f xs)
unfolding is_new is_among
alone-distinct f [] few = refl
alone-distinct f (x ∷ []) few = refl
alone-distinct f (x ∷ y ∷ xs) few = absurd (omega arith)

pub alone-logged : {L A : Type 0} (step : L → Message → Logged → L → Type 0) (label : List ℕ) (f : A → List ℕ) (xs : List A) (s : L) → length xs < 2 → Took step s (repeat_errors label (map f xs)) s
unfolding repeat_error error_if is_among
alone-logged step label f [] s few = Took-none step s
alone-logged step label f (x ∷ []) s few = Took-none step s
alone-logged step label f (x ∷ y ∷ xs) s few = absurd (omega arith)
