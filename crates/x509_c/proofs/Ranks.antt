-- Rows of an index, sorted by their rank.
use Rattle.std.proofs.Common.{◌≡◌, ℕ, zero, suc, ◌<◌, ◌≤◌, ◌+◌, ◌*◌, ◌^◌, List, [], ◌∷◌, length, map, get_or, refl, sym, ap, subst, arith, nat_cmp, ◌∙◌}
use Rattle.std.specs.Int.Digits.{number_from_digits}
use Rattle.std.specs.List.{All}
use Rattle.std.specs.List.Sorted.{IsNonDecreasingBy, IsPermutation}
use Rattle.std.specs.Ordering.{ordering_then}
use Rattle.std.proofs.lemmas.Bool.Decides.{nat_tests}
use Rattle.std.proofs.lemmas.List.{ext_get_or, get_or-map, length-map}
use Rattle.std.proofs.lemmas.List.Sorted.{IsPermutation-map, All-permutation}
use Rattle.x509_der.specs.Unsigned.{unsigned_bytes}
use Rattle.x509_lists.specs.FindRevoked.{serial_numbers}
use Rattle.x509_lists.specs.RevokedCertificate.{Revoked, revoked_of}
use Rattle.x509_lists.specs.declared.revoked_certificate.RevokedCertificate.{RevokedCertificate}
use Rattle.x509_revoked.specs.Entries.{Indexed, indexed_from, number_at, position_at}
use Rattle.x509_revoked.proofs.Least.{answers_first}
use Rattle.x509_revoked.proofs.Ranked.{IsBefore, AreRanked, order_of, ties_of}
use Rattle.x509_c.specs.Index.{IsIndexOf, rank, row_of}
use Rattle.x509_c.specs.Rows.{RowsShowBelow}
use Rattle.x509_c.specs.declared.index.IndexRow.{IndexRow}

-- first by the number, and then by the position
pub ranks_compare : (m n p q : ℕ) → p < 2 ^ 64 → q < 2 ^ 64 → ordering_then (nat_cmp m n) (nat_cmp p q) ≡ nat_cmp (m * 2 ^ 64 + p) (n * 2 ^ 64 + q)
ranks_compare m n p q a b = grind (arith, nat_tests)

-- what rows have at an index
pub number_here : (rows : List IndexRow) (k : ℕ) (none : IndexRow) → k < length rows → number_at (map row_of rows) k ≡ number_from_digits 256 (get_or rows k none).serial.now
number_here [] k none within = absurd (omega (arith, within))
number_here (x ∷ rows) zero none within = refl
number_here (x ∷ rows) (suc k) none within = number_here rows k none (omega (arith, within))

pub position_here : (rows : List IndexRow) (k : ℕ) (none : IndexRow) → k < length rows → position_at (map row_of rows) k ≡ (get_or rows k none).position
position_here [] k none within = absurd (omega (arith, within))
position_here (x ∷ rows) zero none within = refl
position_here (x ∷ rows) (suc k) none within = position_here rows k none (omega (arith, within))

-- ---- sorted rows

before_of : (m n p q : ℕ) → q < 2 ^ 64 → m * 2 ^ 64 + p ≤ n * 2 ^ 64 + q → IsBefore (record { number = m; position = p }) (record { number = n; position = q })
before_of m n p q below le = record { number = omega arith; position = λ same. omega (arith, same) }

Fit : List IndexRow → Type 0
Fit = All (λ (r : IndexRow). r.position < 2 ^ 64)

first_before : (x : IndexRow) (rows : List IndexRow) → IsNonDecreasingBy rank (x ∷ rows) → Fit (x ∷ rows) → All (IsBefore (row_of x)) (map row_of rows)
unfolding Fit
first_before x rows sorted fit k d below =
    let within : k < length rows = subst (λ n. k < n) (length-map rows row_of) below in
    let y = get_or rows k x in
    subst (λ (z : Indexed). IsBefore (row_of x) z) (sym (get_or-map row_of rows k x d within))
    (before_of (number_from_digits 256 x.serial.now) (number_from_digits 256 y.serial.now) x.position y.position (fit (suc k) x (omega (arith, within))) (sorted 0 (suc k) x (omega arith) (omega (arith, within))))

ranked : (rows : List IndexRow) → IsNonDecreasingBy rank rows → Fit rows → AreRanked (map row_of rows)
unfolding Fit
ranked [] sorted fit = tt
ranked (x ∷ rows) sorted fit =
    (first_before x rows sorted fit, ranked rows (λ i j d le lt. sorted (suc i) (suc j) d (omega (arith, le)) (omega (arith, lt))) (λ k d lt. fit (suc k) d (omega (arith, lt))))

-- what the serials with their positions have at an index
pub indexed_at : (from : ℕ) (numbers : List ℕ) (k d : ℕ) (e : Indexed) → k < length numbers → get_or (indexed_from from numbers) k e ≡ record { number = get_or numbers k d; position = from + k }
indexed_at from [] k d e within = absurd (omega (arith, within))
indexed_at from (n ∷ numbers) zero d e within = ap (λ p. record { number = n; position = p }) (omega arith)
indexed_at from (n ∷ numbers) (suc k) d e within =
    indexed_at (from + 1) numbers k d e (omega (arith, within)) ∙ ap (λ p. record { number = get_or numbers k d; position = p }) (omega arith)

fit_of : (numbers : List ℕ) (rows : List IndexRow) → map row_of rows ≡ indexed_from 0 numbers → length rows ≡ length numbers → length rows < 2 ^ 64 → Fit rows
unfolding Fit
fit_of numbers rows is count small k d below =
    let here : row_of (get_or rows k d) ≡ record { number = get_or numbers k 0; position = 0 + k }
    = sym (get_or-map row_of rows k d (row_of d) below) ∙ ap (λ (xs : List Indexed). get_or xs k (row_of d)) is ∙ indexed_at 0 numbers k 0 (row_of d) (omega (arith, below, count)) in
    omega (arith, ap (λ (x : Indexed). x.position) here, below, small)

-- rows of all serials with their positions, sorted, are their index
pub index_sorted : (numbers : List ℕ) (before rows : List IndexRow) → map row_of before ≡ indexed_from 0 numbers → length before ≡ length numbers → length before < 2 ^ 64 → IsPermutation before rows → IsNonDecreasingBy rank rows
    → IsIndexOf numbers rows
unfolding Fit
index_sorted numbers before rows is count small same sorted =
    let moved : IsPermutation (indexed_from 0 numbers) (map row_of rows) = subst (λ (xs : List Indexed). IsPermutation xs (map row_of rows)) is (IsPermutation-map row_of before rows same) in
    let ranks = ranked rows sorted (All-permutation (λ (r : IndexRow). r.position < 2 ^ 64) before rows same (fit_of numbers before is count small)) in
    record { order = order_of (map row_of rows) ranks; entries = moved; answers = answers_first (map row_of rows) numbers moved (ties_of (map row_of rows) ranks) }

-- ---- rows in the order of the list

abbrev pub IsRowOf : IndexRow → Indexed → Type 0
IsRowOf r x = row_of r ≡ x

-- the serial of an entry as a number
pub serial_here : (entries : List RevokedCertificate) (i : ℕ) (none : RevokedCertificate) → i < length entries
    → get_or (serial_numbers (map revoked_of entries)) i 0 ≡ number_from_digits 256 (unsigned_bytes (get_or entries i none).user_certificate)
serial_here entries i none within =
    get_or-map (λ (r : Revoked). number_from_digits 256 r.serial) (map revoked_of entries) i (revoked_of none) 0 (omega (arith, within, length-map entries revoked_of))
    ∙ ap (λ (r : Revoked). number_from_digits 256 r.serial) (get_or-map revoked_of entries i none (revoked_of none) within)

indexed_length : (from : ℕ) (numbers : List ℕ) → length (indexed_from from numbers) ≡ length numbers
indexed_length from [] = refl
indexed_length from (n ∷ numbers) = omega (arith, indexed_length (from + 1) numbers)

-- each row is that of its entry
pub rows_indexed : (numbers : List ℕ) (rows : List IndexRow) (i : ℕ) → length rows ≡ length numbers → length numbers ≤ i → RowsShowBelow IsRowOf i rows (indexed_from 0 numbers) → map row_of rows ≡ indexed_from 0 numbers
rows_indexed [] [] i same all shown = refl
rows_indexed (n ∷ numbers) [] i same all shown = absurd (omega (arith, same))
rows_indexed numbers (x ∷ rows) i same all shown =
    let none : Indexed = record { number = 0; position = 0 } in
    ext_get_or none (map row_of (x ∷ rows)) (indexed_from 0 numbers) (length-map (x ∷ rows) row_of ∙ same ∙ sym (indexed_length 0 numbers))
    (λ k below.
    let within : k < length (x ∷ rows) = subst (λ n. k < n) (length-map (x ∷ rows) row_of) below in
    get_or-map row_of (x ∷ rows) k x none within ∙ shown k x none (omega (arith, within, same, all)))
