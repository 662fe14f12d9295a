-- Looking for a serial from the front.
use Rattle.std.proofs.Common.{◌≡◌, ◌==◌, ◌+◌, ℕ, zero, suc, ◌<◌, Bool, true, false, List, [], ◌∷◌, length, drop, cond, Some, None, refl, sym, ap, ◌∙◌, arith}
use Rattle.std.specs.Int.Digits.{number_from_digits}
use Rattle.std.specs.List.{position_from}
use Rattle.std.specs.Prelude.{slice_get}
use Rattle.std.proofs.lemmas.Iterator.Adapters.{position_from-zero}
use Rattle.std.proofs.lemmas.List.{drop_more, length-drop}
use Rattle.x509_lists.specs.FindRevoked.{first_of, serial_numbers}
use Rattle.x509_lists.specs.RevokedCertificate.{Revoked}

-- ---- lists

pub drop_next : {A : Type 0} (xs ys : List A) (k : ℕ) (x : A) → drop k xs ≡ x ∷ ys → drop (k + 1) xs ≡ ys
drop_next xs ys k x e =
    let within : k < length xs = omega (arith, ap length e, length-drop k xs) in
    ap (drop 1) (sym (drop_more xs k x within) ∙ e)

pub member_at : {A : Type 0} (xs ys : List A) (k : ℕ) (x : A) → drop k xs ≡ x ∷ ys → slice_get xs k ≡ Some x
member_at [] ys zero x e = absurd (omega (arith, ap length e))
member_at [] ys (suc k) x e = absurd (omega (arith, ap length e))
member_at (z ∷ xs) ys zero x e = ap (λ l. slice_get l 0) e
member_at (z ∷ xs) ys (suc k) x e = member_at xs ys k x e

-- ---- the search

abbrev number_of : Revoked → ℕ
number_of entry = number_from_digits 256 entry.serial

-- none of the entries before the position has the number, and these are left
pub record Sought (all : List Revoked) (n : ℕ) (left : List Revoked) (position : ℕ) : Type 0 where
  pub first : first_of (serial_numbers all) n ≡ position_from (λ m. m == n) position (serial_numbers left)
  pub rest : drop position all ≡ left
  pub within : position + length left ≡ length all

pub sought_all : (all : List Revoked) (n : ℕ) → Sought all n all 0
sought_all all n = record { first = position_from-zero (λ m. m == n) (serial_numbers all); rest = refl; within = omega arith }

-- the next one, whether it has the number or not
next_is : (all : List Revoked) (n : ℕ) (left : List Revoked) (position : ℕ) (entry : Revoked) (rest : List Revoked) (has : Bool) → Sought all n left position → left ≡ entry ∷ rest → has ≡ (number_of entry == n)
    → first_of (serial_numbers all) n ≡ cond has (Some position) (position_from (λ m. m == n) (position + 1) (serial_numbers rest))
next_is all n left position entry rest has so_far first test =
    so_far.first ∙ ap (λ l. position_from (λ m. m == n) position (serial_numbers l)) first
    ∙ ap (λ b. cond b (Some position) (position_from (λ m. m == n) (position + 1) (serial_numbers rest))) (sym test)

pub found_next : (all : List Revoked) (n : ℕ) (left : List Revoked) (position : ℕ) (entry : Revoked) (rest : List Revoked) (has : Bool) → Sought all n left position → left ≡ entry ∷ rest → has ≡ (number_of entry == n) → has ≡ true
    → first_of (serial_numbers all) n ≡ Some position
found_next all n left position entry rest has so_far first test is =
    next_is all n left position entry rest has so_far first test ∙ ap (λ b. cond b (Some position) (position_from (λ m. m == n) (position + 1) (serial_numbers rest))) is

pub sought_more : (all : List Revoked) (n : ℕ) (left : List Revoked) (position : ℕ) (entry : Revoked) (rest : List Revoked) (has : Bool) → Sought all n left position → left ≡ entry ∷ rest → has ≡ (number_of entry == n) → has ≡ false
    → Sought all n rest (position + 1)
sought_more all n left position entry rest has so_far first test is = record {
  first = next_is all n left position entry rest has so_far first test ∙ ap (λ b. cond b (Some position) (position_from (λ m. m == n) (position + 1) (serial_numbers rest))) is;
  rest = drop_next all rest position entry (so_far.rest ∙ first);
  within = omega (arith, so_far.within, ap length first);
}

pub sought_none : (all : List Revoked) (n : ℕ) (left : List Revoked) (position : ℕ) → Sought all n left position → left ≡ [] → first_of (serial_numbers all) n ≡ None
sought_none all n left position so_far none = so_far.first ∙ ap (λ l. position_from (λ m. m == n) position (serial_numbers l)) none
