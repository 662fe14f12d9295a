-- Entries with the heads of their serials are in order by their heads exactly where they are by their serials.
use Rattle.std.proofs.Common.{◌≡◌, ℕ, ◌+◌, ◌<◌, ◌≤◌, List, [], ◌∷◌, ◌++◌, length, get_or, map}
use Rattle.std.proofs.Common.{false, is_lt, nat_cmp, Ordering, Less, Equal, Greater, refl, sym, ap, subst, ◌∙◌, arith}
use Rattle.std.specs.List.Sorted.{IsPermutation, IsSorted}
use Rattle.std.specs.Ordering.{ordering_then}
use Rattle.std.proofs.lemmas.List.{get_or-map, length-map, map-append}
use Rattle.std.proofs.lemmas.List.Sorted.{All-permutation, IsPermutation-map}
use Rattle.x509_revoked.specs.Beginnings.{beginnings}
use Rattle.x509_revoked.specs.Entries.{Indexed, indexed, number_at, number_of, position_at}
use Rattle.x509_revoked.specs.HeadedEntries.{offsets_of, IsHeaded, AreHeaded, by_head}
use Rattle.x509_revoked.specs.IndexOf.{AreIndexOf, placed}
use Rattle.x509_revoked.specs.SerialOrder.{by_serial, number_at_offset}
use Rattle.x509_revoked.specs.SerialHead.{serial_head}
use Rattle.x509_revoked.specs.declared.entry.Entry.{Entry}
use Rattle.x509_revoked.specs.declared.headed_entry.HeadedEntry.{HeadedEntry}
use Rattle.x509_revoked.proofs.Heads.{heads_first, less_by_heads, greater_by_heads}
use Rattle.x509_revoked.proofs.Placed.{index_made}
use Rattle.x509_revoked.proofs.Ranked.{compared}

then_assoc : (a b c : Ordering) → ordering_then a (ordering_then b c) ≡ ordering_then (ordering_then a b) c
then_assoc Less b c = refl
then_assoc Equal b c = refl
then_assoc Greater b c = refl

-- two entries are in one order by both
by_both : (octets : List ℕ) (a b : HeadedEntry) → IsHeaded octets a → IsHeaded octets b → by_head octets a b ≡ by_serial octets a.offset b.offset
by_both octets a b mine yours =
    let m = number_at_offset octets a.offset in
    let n = number_at_offset octets b.offset in
    then_assoc (nat_cmp a.head b.head) (nat_cmp m n) (nat_cmp a.offset b.offset)
    ∙ ap (λ o. ordering_then o (nat_cmp a.offset b.offset)) (heads_first m n a.head b.head mine yours)

offset_at : (entries : List HeadedEntry) (k d : ℕ) (e : HeadedEntry) → k < length entries → get_or (offsets_of entries) k d ≡ (get_or entries k e).offset
offset_at entries k d e within = get_or-map (λ (x : HeadedEntry). x.offset) entries k e d within

at_both : (octets : List ℕ) (entries : List HeadedEntry) → AreHeaded octets entries → (k d : ℕ) (e : HeadedEntry) → k + 1 < length entries
    → by_head octets (get_or entries (k + 1) e) (get_or entries k e) ≡ by_serial octets (get_or (offsets_of entries) (k + 1) d)
    (get_or (offsets_of entries) k d)
at_both octets entries headed k d e within =
    let next = offset_at entries (k + 1) d e within in
    let here = offset_at entries k d e (omega (arith, within)) in
    by_both octets (get_or entries (k + 1) e) (get_or entries k e) (headed (k + 1) e within) (headed k e (omega (arith, within)))
    ∙ ap (λ o. by_serial octets o (get_or entries k e).offset) (sym next) ∙ ap (λ o. by_serial octets (get_or (offsets_of entries) (k + 1) d) o) (sym here)

long : (entries : List HeadedEntry) → length (offsets_of entries) ≡ length entries
long entries = length-map entries (λ (x : HeadedEntry). x.offset)

pub serials_sorted : (octets : List ℕ) (entries : List HeadedEntry) → AreHeaded octets entries → IsSorted (by_head octets) entries
    → IsSorted (by_serial octets) (offsets_of entries)
serials_sorted octets entries headed sorted k d from within =
    let e : HeadedEntry = record { head = 0; offset = d } in
    let inside : k + 1 < length entries = omega (arith, within, long entries) in
    subst (λ o. is_lt o ≡ false) (at_both octets entries headed k d e inside) (sorted k e from inside)

pub heads_sorted : (octets : List ℕ) (entries : List HeadedEntry) → AreHeaded octets entries → IsSorted (by_serial octets) (offsets_of entries)
    → IsSorted (by_head octets) entries
heads_sorted octets entries headed sorted k e from within =
    subst (λ o. is_lt o ≡ false) (sym (at_both octets entries headed k 0 e within)) (sorted k 0 from (omega (arith, within, long entries)))

-- ---- one entry more

pub offsets_more : (entries : List HeadedEntry) (entry : HeadedEntry) → offsets_of (entries ++ entry ∷ []) ≡ offsets_of entries ++ entry.offset ∷ []
offsets_more entries entry = map-append (λ (x : HeadedEntry). x.offset) entries (entry ∷ [])

-- ---- an index is made of the entries that begin in the octets, sorted

pub headed_index : (octets : List ℕ) (entries sorted : List HeadedEntry) → offsets_of entries ≡ beginnings octets → AreHeaded octets entries
    → IsPermutation entries sorted → IsSorted (by_head octets) sorted
    → AreIndexOf octets (offsets_of sorted) × AreHeaded octets sorted
headed_index octets entries sorted begin headed moved order =
    let still : AreHeaded octets sorted = All-permutation (IsHeaded octets) entries sorted moved headed in (
      index_made octets (offsets_of entries) (offsets_of sorted) begin (IsPermutation-map (λ (x : HeadedEntry). x.offset) entries sorted moved)
          (serials_sorted octets sorted still order),
      still,
    )

-- ---- where one of them begins, and its serial

pub length_placed : (octets : List ℕ) (entries : List HeadedEntry) → length (map (placed octets) (offsets_of entries)) ≡ length entries
length_placed octets entries = length-map (offsets_of entries) (placed octets) ∙ long entries

there : (octets : List ℕ) (entries : List HeadedEntry) (k : ℕ) (e : HeadedEntry) (none : Indexed) → k < length entries
    → get_or (map (placed octets) (offsets_of entries)) k none ≡ placed octets (get_or entries k e).offset
there octets entries k e none within =
    get_or-map (placed octets) (offsets_of entries) k (get_or entries k e).offset none (omega (arith, within, long entries))
    ∙ ap (placed octets) (offset_at entries k (get_or entries k e).offset e within)

pub number_there : (octets : List ℕ) (entries : List HeadedEntry) (k : ℕ) (e : HeadedEntry) → k < length entries
    → number_at (map (placed octets) (offsets_of entries)) k ≡ number_at_offset octets (get_or entries k e).offset
number_there octets entries k e within = ap (λ (x : Indexed). x.number) (there octets entries k e (record { number = 0; position = 0 }) within)

pub position_there : (octets : List ℕ) (entries : List HeadedEntry) (k : ℕ) (e : HeadedEntry) → k < length entries
    → position_at (map (placed octets) (offsets_of entries)) k ≡ (get_or entries k e).offset
position_there octets entries k e within = ap (λ (x : Indexed). x.position) (there octets entries k e (record { number = 0; position = 0 }) within)

-- compared with a number whose head is known: by the heads where they differ
pub less_there : (octets : List ℕ) (entries : List HeadedEntry) (k n h : ℕ) (e : HeadedEntry) → AreHeaded octets entries → k < length entries
    → h ≡ serial_head n → (get_or entries k e).head < h → Less ≡ nat_cmp (number_at (map (placed octets) (offsets_of entries)) k) n
less_there octets entries k n h e headed within head lt =
    let entry = get_or entries k e in
    less_by_heads (number_at_offset octets entry.offset) n entry.head h (headed k e within) head lt
    ∙ ap (λ x. nat_cmp x n) (sym (number_there octets entries k e within))

pub greater_there : (octets : List ℕ) (entries : List HeadedEntry) (k n h : ℕ) (e : HeadedEntry) → AreHeaded octets entries → k < length entries
    → h ≡ serial_head n → h < (get_or entries k e).head → Greater ≡ nat_cmp (number_at (map (placed octets) (offsets_of entries)) k) n
greater_there octets entries k n h e headed within head lt =
    let entry = get_or entries k e in
    greater_by_heads (number_at_offset octets entry.offset) n entry.head h (headed k e within) head lt
    ∙ ap (λ x. nat_cmp x n) (sym (number_there octets entries k e within))

-- ---- entries of a kept list, by head, serial and position

by_number : (x y : Entry) → ordering_then (ordering_then (nat_cmp x.serial.head y.serial.head) (nat_cmp (number_of x.serial) (number_of y.serial)))
    (nat_cmp x.position y.position) ≡ compared (indexed x) (indexed y)
by_number x y = ap (λ o. ordering_then o (nat_cmp x.position y.position))
    (heads_first (number_of x.serial) (number_of y.serial) x.serial.head y.serial.head x.serial.is_head y.serial.is_head)

pub indexed_sorted : (xs : List Entry)
    → ((k : ℕ) (d : Entry) → 0 ≤ k → k + 1 < length xs → (let x = get_or xs (k + 1) d in let y = get_or xs k d in
    is_lt (ordering_then (ordering_then (nat_cmp x.serial.head y.serial.head) (nat_cmp (number_of x.serial) (number_of y.serial)))
    (nat_cmp x.position y.position)) ≡ false))
    → (k : ℕ) (d : Entry) → 0 ≤ k → k + 1 < length xs → is_lt (compared (indexed (get_or xs (k + 1) d)) (indexed (get_or xs k d))) ≡ false
indexed_sorted xs sorted k d from within = subst (λ o. is_lt o ≡ false) (by_number (get_or xs (k + 1) d) (get_or xs k d)) (sorted k d from within)
