-- Identifiers that no row of the table has.
use Rattle.std.proofs.Common.{◌≡◌, ℕ, suc, Bool, true, false, ◌&&◌, ◌==◌, List, [], ◌∷◌, length, None, refl, sym, ap, ◌∙◌}
use Rattle.std.specs.List.{find}
use Rattle.std.specs.Option.{option_map}
use Rattle.std.specs.Str.{bytes_eq}
use Rattle.std.proofs.lemmas.Bool.Decides.{same_from_decides}
use Rattle.std.proofs.lemmas.Slice.Eq.{bytes_eq-Decides}
use Rattle.x509_elements.specs.declared.value.ExtensionValue.{ExtensionValue}
use Rattle.x509_elements.specs.Told.{ce, known, ns, pe, timestamp_list, value_of}

second_false : (a b : Bool) → b ≡ false → (a && b) ≡ false
second_false true b e = e
second_false false b e = refl

other_length : (xs ys : List ℕ) → (length xs ≡ length ys → ⊥) → bytes_eq xs ys ≡ false
other_length [] [] ne = absurd (ne refl)
other_length [] (y ∷ ys) ne = refl
other_length (x ∷ xs) [] ne = refl
other_length (x ∷ xs) (y ∷ ys) ne = second_false (x == y) (bytes_eq xs ys) (other_length xs ys (λ e. ne (ap (λ (n : ℕ). suc n) e)))

turned : (a b : List ℕ) → bytes_eq a b ≡ bytes_eq b a
turned a b = same_from_decides {P = a ≡ b} (bytes_eq a b) (bytes_eq b a) (bytes_eq-Decides a b) (λ h. sym ((bytes_eq-Decides b a).0 h), λ e. (bytes_eq-Decides b a).1 (sym e))

abbrev NoRow : List (List ℕ × ExtensionValue) → List ℕ → Type 0
NoRow [] id = Unit {0}
NoRow (r ∷ rows) id = (bytes_eq r.0 id ≡ false) × NoRow rows id

unknown : (rows : List (List ℕ × ExtensionValue)) (id : List ℕ) → NoRow rows id → find (λ r. bytes_eq r.0 id) rows ≡ None
unknown [] id none = refl
unknown (r ∷ rows) id none = rw (none.0, unknown rows id none.1) refl

-- all but five rows have three octets
pub no_row : (id : List ℕ) → (3 ≡ length id → ⊥)
    → false ≡ bytes_eq id (pe 1) → false ≡ bytes_eq id (pe 11) → false ≡ bytes_eq id timestamp_list → false ≡ bytes_eq id (ns 1) → false ≡ bytes_eq id (ns 13)
    → None ≡ value_of id
unfolding value_of
no_row id long a b c d e =
    let three : (n : ℕ) → bytes_eq (ce n) id ≡ false = λ n. other_length (ce n) id long in
    let not : (row : List ℕ) → false ≡ bytes_eq id row → bytes_eq row id ≡ false = λ row e. turned row id ∙ sym e in
    ap (option_map (λ r. r.1)) (sym (unknown known id (three 14, (three 15, (three 17, (three 18, (three 19, (three 20, (three 21, (three 24, (three 28, (three 30, (three 31, (three 32, (three 33, (three 35, (three 36, (three 37, (three 54, (not (pe 1) a, (not (pe 11) b, (not timestamp_list c, (not (ns 1) d, (not (ns 13) e, tt))))))))))))))))))))))))
