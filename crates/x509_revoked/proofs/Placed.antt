-- What an index over octets answers, and what its octets hold.
use mathlib.Core.Logic.{∥∥₁_elim}
use Rattle.std.proofs.Common.{◌≡◌, ◌==◌, ℕ, suc, ◌+◌, ◌<◌, ◌≤◌, ◌^◌, Bool, true, false, cond, List, [], ◌∷◌, ◌++◌, length, map, Option, Some, None, refl, sym, ap, subst, ◌∙◌, arith}
use Rattle.std.specs.List.{All, position_from}
use Rattle.std.specs.List.Sorted.{IsNonDecreasing, IsPermutation, IsSorted}
use Rattle.std.specs.Prelude.{slice_get, MatchOption}
use Rattle.std.proofs.Props.{props}
use Rattle.std.proofs.lemmas.Iterator.Adapters.{position_from-zero}
use Rattle.std.proofs.lemmas.List.{append_cancel_left}
use Rattle.std.proofs.lemmas.List.Elements.{All-head, All-tail, All-weaker}
use Rattle.std.proofs.lemmas.List.Sorted.{All-permutation, IsPermutation-map, IsPermutation-sym, IsPermutation-trans, length_permutation}
use Rattle.std.proofs.lemmas.Grind.{merely}
use Rattle.x509_der.specs.Plan.{members}
use Rattle.x509_lists.specs.EntriesIn.{entries_in, HoldsEntries}
use Rattle.x509_lists.specs.FindRevoked.{first_of, serial_numbers}
use Rattle.x509_lists.specs.RevokedCertificate.{Revoked, revoked}
use Rattle.x509_revoked.specs.Beginnings.{beginnings}
use Rattle.x509_revoked.specs.Entries.{position_in, AreInOrder}
use Rattle.x509_revoked.specs.IndexFile.{head_octets, offset_octets, index_octets}
use Rattle.x509_revoked.specs.IndexOf.{AreIndexOf, IsFileOf, placed}
use Rattle.x509_revoked.specs.SerialOrder.{by_serial, number_at_offset}
use Rattle.x509_revoked.proofs.Codes.{Fit, offsets_once}
use Rattle.x509_revoked.proofs.Filled.{filled_by, up_begins, ties_begin, length_begins, begins_within, numbers_begin, StandsAt, stands_at}
use Rattle.x509_revoked.proofs.Least.{same_answers}
use Rattle.x509_revoked.proofs.Sorting.{sorted_once, up_sorted}
use Rattle.x509_revoked.proofs.Ranked.{AreRanked, ranked_sorted, ties_of, order_of}

-- ---- the first position of a number, and the offset there

-- first is the first position from this one on, and found the offset there
abbrev Told : List ℕ → ℕ → Option ℕ → Option ℕ → Type 0
Told offsets position first None = first ≡ None
Told offsets position first (Some offset) = (k : ℕ) × (first ≡ Some (position + k)) × (slice_get offsets k ≡ Some offset)

told_behind : (offsets : List ℕ) (position offset : ℕ) (first found : Option ℕ) → Told offsets (position + 1) first found → Told (offset ∷ offsets) position first found
told_behind offsets position offset first None told = told
told_behind offsets position offset first (Some x) told = (suc told.0, told.1 ∙ ap Some (omega arith), told.2)

told_test : (offsets : List ℕ) (position offset : ℕ) (first found : Option ℕ) → Told offsets (position + 1) first found → (b : Bool) → Told (offset ∷ offsets) position (cond b (Some position) first) (cond b (Some offset) found)
told_test offsets position offset first found told true = (0, ap Some (omega arith), refl)
told_test offsets position offset first found told false = told_behind offsets position offset first found told

told_by : (octets : List ℕ) (n position : ℕ) (offsets : List ℕ) → Told offsets position (position_from (λ m. m == n) position (map (number_at_offset octets) offsets)) (position_in (map (placed octets) offsets) n)
told_by octets n position [] = refl
told_by octets n position (offset ∷ offsets) = told_test offsets position offset _ _ (told_by octets n (position + 1) offsets) (number_at_offset octets offset == n)

told_first : (offsets : List ℕ) (first same found : Option ℕ) → same ≡ first → Told offsets 0 first found → MatchOption found (same ≡ None) (λ offset. (k : ℕ) × (same ≡ Some k) × (slice_get offsets k ≡ Some offset))
told_first offsets first same None is told = is ∙ told
told_first offsets first same (Some x) is told = (told.0, is ∙ told.1 ∙ ap Some (omega arith), told.2)

-- ---- an index answers as the list

pub ranked_index : (octets offsets : List ℕ) → AreIndexOf octets offsets → AreRanked (map (placed octets) offsets)
ranked_index octets offsets index = ranked_sorted (placed octets) offsets index.in_order

pub index_in_order : (octets offsets : List ℕ) → AreIndexOf octets offsets → AreInOrder (map (placed octets) offsets)
index_in_order octets offsets index = order_of (map (placed octets) offsets) (ranked_index octets offsets index)

pub index_answers : (octets offsets : List ℕ) (count : ℕ) → HoldsEntries octets count → AreIndexOf octets offsets → (n : ℕ) (found : Option ℕ) → found ≡ position_in (map (placed octets) offsets) n
    → MatchOption found (first_of (serial_numbers (entries_in octets)) n ≡ None) (λ offset. (k : ℕ) × (first_of (serial_numbers (entries_in octets)) n ≡ Some k) × (slice_get (beginnings octets) k ≡ Some offset))
index_answers octets offsets count holds index n found is =
    let filled = filled_by count octets holds in
    let all = beginnings octets in
    let same : position_in (map (placed octets) offsets) n ≡ position_in (map (placed octets) all) n =
    ∥∥₁_elim index.each_once (hlevel props) (λ moved.
    same_answers (map (placed octets) offsets) (map (placed octets) all) (IsPermutation-map (placed octets) all offsets moved) (ties_of (map (placed octets) offsets) (ranked_index octets offsets index))
    (ties_begin octets (length octets) octets (entries_in octets) filled) n) in
    let numbers : map (number_at_offset octets) all ≡ serial_numbers (entries_in octets) = numbers_begin octets [] octets (entries_in octets) filled refl in
    let first : first_of (serial_numbers (entries_in octets)) n ≡ position_from (λ m. m == n) 0 (map (number_at_offset octets) all) =
    ap (λ ns. first_of ns n) (sym numbers) ∙ position_from-zero (λ m. m == n) (map (number_at_offset octets) all) in
    subst (λ (o : Option ℕ). MatchOption o (first_of (serial_numbers (entries_in octets)) n ≡ None) (λ offset. (k : ℕ) × (first_of (serial_numbers (entries_in octets)) n ≡ Some k) × (slice_get all k ≡ Some offset))) (sym (is ∙ same))
    (told_first all _ _ (position_in (map (placed octets) all) n) first (told_by octets n 0 all))

pub found_there : (octets : List ℕ) (count : ℕ) → HoldsEntries octets count → (position offset : ℕ) → slice_get (beginnings octets) position ≡ Some offset → StandsAt octets (entries_in octets) position offset
found_there octets count holds position offset e = stands_at octets [] octets (entries_in octets) position offset (filled_by count octets holds) refl e

-- ---- its octets

pub index_length : (octets offsets : List ℕ) → AreIndexOf octets offsets → length offsets ≡ length (entries_in octets)
index_length octets offsets index =
    ∥∥₁_elim index.each_once (hlevel props) (λ moved. length_permutation (beginnings octets) offsets moved ∙ length_begins (length octets) octets (entries_in octets))

all_fit : (offsets : List ℕ) → All (λ o. o < 2 ^ 32) offsets → Fit offsets
all_fit [] h = tt
all_fit (o ∷ os) h = (All-head (λ o. o < 2 ^ 32) o os h, all_fit os (All-tail (λ o. o < 2 ^ 32) o os h))

pub index_fits : (octets offsets : List ℕ) → length octets < 2 ^ 32 → AreIndexOf octets offsets → All (λ o. o < 2 ^ 32) offsets
index_fits octets offsets short index =
    ∥∥₁_elim index.each_once (hlevel props) (λ moved.
    All-permutation (λ o. o < 2 ^ 32) (beginnings octets) offsets moved
    (All-weaker (λ o. o ≤ length octets) (λ o. o < 2 ^ 32) (λ o le. omega (arith, le, short)) (beginnings octets) (begins_within (length octets) octets (entries_in octets))))

-- two lists of offsets with the same octets are one
pub one_index : (size : ℕ) (xs ys : List ℕ) → All (λ o. o < 2 ^ 32) xs → All (λ o. o < 2 ^ 32) ys → length xs ≡ length ys → index_octets size xs ≡ index_octets size ys → xs ≡ ys
one_index size xs ys fit_x fit_y long same =
    offsets_once xs ys (all_fit xs fit_x) (all_fit ys fit_y)
    (append_cancel_left (head_octets (length xs) size) (offset_octets xs) (offset_octets ys) (same ∙ ap (λ n. head_octets n size ++ offset_octets ys) (sym long)))

-- offsets in ascending order, of which others are a permutation that is an index, are where the entries begin
pub ascending_begin : (octets ascending offsets : List ℕ) (count : ℕ) → HoldsEntries octets count → AreIndexOf octets offsets → IsNonDecreasing ascending → IsPermutation offsets ascending → ascending ≡ beginnings octets
ascending_begin octets ascending offsets count holds index rising moved =
    ∥∥₁_elim index.each_once (hlevel props) (λ from.
    sym (sorted_once (beginnings octets) ascending (up_begins (length octets) octets (entries_in octets) (filled_by count octets holds)) (up_sorted ascending rising) (IsPermutation-trans (beginnings octets) offsets ascending from moved)))

-- ---- an index is made

-- as many as there are offsets
pub holds_as_many : (octets offsets : List ℕ) (count : ℕ) → HoldsEntries octets count → AreIndexOf octets offsets → HoldsEntries octets (length offsets)
holds_as_many octets offsets count holds index = record { are_bytes = holds.are_bytes; filled = holds.filled; counted = sym (index_length octets offsets index) }

-- of the places where the entries begin, sorted
pub index_made : (octets offsets sorted : List ℕ) → offsets ≡ beginnings octets → IsPermutation offsets sorted → IsSorted (by_serial octets) sorted → AreIndexOf octets sorted
index_made octets offsets sorted begin moved order = record { each_once = merely (subst (λ xs. IsPermutation xs sorted) begin moved); in_order = order }

-- of offsets that are in order, and that are the places where the entries begin when they are sorted
pub index_kept : (octets offsets ascending : List ℕ) → ascending ≡ beginnings octets → IsPermutation offsets ascending → IsSorted (by_serial octets) offsets → AreIndexOf octets offsets
index_kept octets offsets ascending begin moved order =
    record { each_once = merely (IsPermutation-sym offsets (beginnings octets) (subst (λ xs. IsPermutation offsets xs) begin moved)); in_order = order }

-- ---- an entry that is found

-- the first entry with the number stands at the offset
pub record StandsFirst (octets : List ℕ) (n offset : ℕ) : Type 0 where
  pub position : ℕ
  pub first : first_of (serial_numbers (entries_in octets)) n ≡ Some position
  pub there : StandsAt octets (entries_in octets) position offset

pub stands_first : (octets : List ℕ) (count n : ℕ) (found : Option ℕ) (offset : ℕ) → HoldsEntries octets count → found ≡ Some offset
    → MatchOption found (first_of (serial_numbers (entries_in octets)) n ≡ None) (λ o. (k : ℕ) × (first_of (serial_numbers (entries_in octets)) n ≡ Some k) × (slice_get (beginnings octets) k ≡ Some o)) → StandsFirst octets n offset
stands_first octets count n found offset holds is answer =
    let told : (k : ℕ) × (first_of (serial_numbers (entries_in octets)) n ≡ Some k) × (slice_get (beginnings octets) k ≡ Some offset) =
    subst (λ (p : Option ℕ). MatchOption p (first_of (serial_numbers (entries_in octets)) n ≡ None) (λ o. (k : ℕ) × (first_of (serial_numbers (entries_in octets)) n ≡ Some k) × (slice_get (beginnings octets) k ≡ Some o))) is answer in
    record { position = told.0; first = told.1; there = found_there octets count holds told.0 offset told.2 }

-- ---- a file that is none

pub no_file : (entries : List Revoked) (octets window file : List ℕ) (count : ℕ) → octets ≡ window → members revoked octets ≡ ([], entries) → count ≡ length entries
    → ((offsets : List ℕ) → AreIndexOf octets offsets → length offsets ≡ count → file ≡ index_octets (length octets) offsets → ⊥) → IsFileOf window file → ⊥
no_file entries octets window file count same fills counted none kept =
    let own : IsFileOf octets file = subst (λ (w : List ℕ). IsFileOf w file) (sym same) kept in
    none own.0 own.1 (index_length octets own.0 own.1 ∙ ap (λ (m : List ℕ × List Revoked). length m.1) fills ∙ sym counted) own.2
