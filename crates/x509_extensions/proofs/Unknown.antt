-- Identifiers that no row of the table has.
use Rattle.std.proofs.Common.{◌≡◌, ℕ, suc, Bool, true, false, ◌&&◌, ◌==◌, List, [], ◌∷◌, length, None, refl, sym, ap, ◌∙◌}
use Rattle.std.specs.List.{find}
use Rattle.std.specs.Option.{option_map}
use Rattle.std.specs.Str.{bytes_eq}
use Rattle.std.proofs.lemmas.Bool.Decides.{same_from_decides}
use Rattle.std.proofs.lemmas.Slice.Eq.{bytes_eq-Decides}
use Rattle.x509_names.specs.Objects as objects
use Rattle.x509_extensions.specs.declared.kind.Kind.{Kind}
use Rattle.x509_extensions.specs.Kinds.{known, kind_of}

second_false : (a b : Bool) → b ≡ false → (a && b) ≡ false
second_false true b e = e
second_false false b e = refl

other_length : (xs ys : List ℕ) → (length xs ≡ length ys → ⊥) → bytes_eq xs ys ≡ false
other_length [] [] ne = absurd (ne refl)
other_length [] (y ∷ ys) ne = refl
other_length (x ∷ xs) [] ne = refl
other_length (x ∷ xs) (y ∷ ys) ne = second_false (x == y) (bytes_eq xs ys) (other_length xs ys (λ e. ne (ap (λ (n : ℕ). suc n) e)))

turned : (a b : List ℕ) → bytes_eq a b ≡ bytes_eq b a
turned a b = same_from_decides {P = a ≡ b} (bytes_eq a b) (bytes_eq b a) (bytes_eq-Decides a b) (λ h. sym ((bytes_eq-Decides b a).0 h), λ e. (bytes_eq-Decides b a).1 (sym e))

abbrev NoRow : List (List ℕ × Kind) → List ℕ → Type 0
NoRow [] id = Unit {0}
NoRow (r ∷ rows) id = (bytes_eq r.0 id ≡ false) × NoRow rows id

unknown : (rows : List (List ℕ × Kind)) (id : List ℕ) → NoRow rows id → find (λ r. bytes_eq r.0 id) rows ≡ None
unknown [] id none = refl
unknown (r ∷ rows) id none = rw (none.0, unknown rows id none.1) refl

-- all but five rows have three octets
pub no_row : (id : List ℕ) → (3 ≡ length id → ⊥)
    → false ≡ bytes_eq id objects.authority_info_access → false ≡ bytes_eq id objects.subject_info_access → false ≡ bytes_eq id objects.ct_list_sct → false ≡ bytes_eq id objects.ns_cert_type → false ≡ bytes_eq id objects.ns_comment
    → None ≡ kind_of id
unfolding kind_of
no_row id long a b c d e =
    let three : (x y z : ℕ) → bytes_eq (x ∷ y ∷ z ∷ []) id ≡ false = λ x y z. other_length (x ∷ y ∷ z ∷ []) id long in
    let not : (row : List ℕ) → false ≡ bytes_eq id row → bytes_eq row id ≡ false = λ row e. turned row id ∙ sym e in
    ap (option_map (λ r. r.1)) (sym (unknown known id (three 85 29 14, (three 85 29 15, (three 85 29 17, (three 85 29 18, (three 85 29 19, (three 85 29 20, (three 85 29 21, (three 85 29 24, (three 85 29 28, (three 85 29 30, (three 85 29 31, (three 85 29 32, (three 85 29 33, (three 85 29 35, (three 85 29 36, (three 85 29 37, (three 85 29 54, (not objects.authority_info_access a, (not objects.subject_info_access b, (not objects.ct_list_sct c, (not objects.ns_cert_type d, (not objects.ns_comment e, tt))))))))))))))))))))))))
