-- Entries that stand one behind another, and where each of them begins.
use Rattle.std.proofs.Common.{◌≡◌, ℕ, zero, suc, ◌-◌, ◌<◌, ◌≤◌, List, [], ◌∷◌, ◌++◌, length, drop, take, get_or, map, Some, refl, sym, ap, subst, ◌∙◌, inl, inr, arith, append_assoc}
use Rattle.std.specs.Int.Digits.{number_from_digits}
use Rattle.std.specs.List.{All}
use Rattle.std.specs.Prelude.{slice_get}
use Rattle.std.proofs.lemmas.Bool.{cases_lt}
use Rattle.std.proofs.lemmas.List.{length-append, length-take, append-nil, get_or_at}
use Rattle.std.proofs.lemmas.List.Elements.{All-nil, All-cons}
use Rattle.x509_der.specs.Leaves.{sequence as sequence_contents}
use Rattle.x509_der.specs.Looks.{behind}
use Rattle.x509_der.specs.Plan.{got}
use Rattle.x509_der.proofs.Results.{then_by}
use Rattle.x509_der.proofs.UnsignedLemmas.{number-without_leading_zeros}
use Rattle.x509_fields.specs.Fields.{lifted, sequence}
use Rattle.x509_fields.specs.Serial.{serial}
use Rattle.x509_lists.specs.EntriesIn.{entries_in, HoldsEntries}
use Rattle.x509_lists.specs.FindRevoked.{serial_numbers}
use Rattle.x509_lists.specs.RevokedCertificate.{Revoked, revoked, revoked_laws}
use Rattle.x509_lists.proofs.Passing.{First, first_entry, none_held, serial_first}
use Rattle.x509_revoked.specs.Beginnings.{begins, beginnings}
use Rattle.x509_revoked.specs.IndexOf.{placed}
use Rattle.x509_revoked.specs.SerialOrder.{number_read, serial_number, number_at_offset}
use Rattle.x509_revoked.proofs.Least.{IsBehind, AreTiesInOrder}
use Rattle.x509_revoked.proofs.Sorting.{Above, Up}

-- ---- one entry behind another

-- this entry stands there, of some octets
pub record Here (left : List ℕ) (entry : Revoked) : Type 0 where
  pub read : revoked.read left ≡ got entry (behind left)
  pub front : List ℕ
  pub parts : left ≡ front ++ behind left
  pub some : 0 < length front

-- these entries, and nothing behind them
abbrev pub Filled : List ℕ → List Revoked → Type 0
Filled left [] = left ≡ []
Filled left (entry ∷ entries) = Here left entry × Filled (behind left) entries

here_of : (left : List ℕ) (count : ℕ) → HoldsEntries left count → (first : First left count) → Here left first.entry
here_of left count holds first =
    let s = revoked_laws.laws.lawful.is_local.sentence left first.entry (behind left) holds.are_bytes first.read in
    record { read = first.read; front = s.bytes; parts = s.parts; some = omega (arith, s.some) }

no_octets : (left : List ℕ) → length left ≡ 0 → left ≡ []
no_octets [] e = refl
no_octets (b ∷ bs) e = absurd (omega (arith, e))

none_filled : (left : List ℕ) → length left ≡ 0 → Filled left (entries_in left)
none_filled left none = subst (Filled left) (sym (none_held left none)) (no_octets left none)

pub filled_by : (count : ℕ) (left : List ℕ) → HoldsEntries left count → Filled left (entries_in left)
filled_by zero left holds =
    elim (cases_lt 0 (length left)) [
      | inl some ↦ absurd (omega (arith, (first_entry left 0 holds some).some))
      | inr none ↦ none_filled left (omega (arith, none))
    ]
filled_by (suc count) left holds =
    elim (cases_lt 0 (length left)) [
      | inl some ↦
          let first = first_entry left (suc count) holds some in
          let others : HoldsEntries (behind left) count = subst (HoldsEntries (behind left)) {x = suc count - 1} {y = count} (omega arith) first.others in
          subst (Filled left) (sym first.all) (here_of left (suc count) holds first, filled_by count (behind left) others)
      | inr none ↦ none_filled left (omega (arith, none))
    ]

pub shorter : (left : List ℕ) (entry : Revoked) → Here left entry → length (behind left) < length left
shorter left entry here = omega (arith, ap length here.parts, length-append here.front (behind left), here.some)

-- ---- where they begin

above_from : (x all : ℕ) (left : List ℕ) (entries : List Revoked) → Filled left entries → x ≤ all - length left → Above x (begins all left entries)
above_from x all left [] filled le = tt
above_from x all left (entry ∷ entries) filled le = (le, above_from x all (behind left) entries filled.1 (omega (arith, le, shorter left entry filled.0)))

pub up_begins : (all : ℕ) (left : List ℕ) (entries : List Revoked) → Filled left entries → Up (begins all left entries)
up_begins all left [] filled = tt
up_begins all left (entry ∷ entries) filled =
    (above_from (all - length left) all (behind left) entries filled.1 (omega (arith, shorter left entry filled.0)), up_begins all (behind left) entries filled.1)

behind_from : (octets : List ℕ) (n p all : ℕ) (left : List ℕ) (entries : List Revoked) → Filled left entries → p ≤ all - length left → All (IsBehind n p) (map (placed octets) (begins all left entries))
behind_from octets n p all left [] filled le = All-nil (IsBehind n p)
behind_from octets n p all left (entry ∷ entries) filled le =
    All-cons (IsBehind n p) (placed octets (all - length left)) (map (placed octets) (begins all (behind left) entries)) (λ _. le) (behind_from octets n p all (behind left) entries filled.1 (omega (arith, le, shorter left entry filled.0)))

pub ties_begin : (octets : List ℕ) (all : ℕ) (left : List ℕ) (entries : List Revoked) → Filled left entries → AreTiesInOrder (map (placed octets) (begins all left entries))
ties_begin octets all left [] filled = tt
ties_begin octets all left (entry ∷ entries) filled =
    (behind_from octets (number_at_offset octets (all - length left)) (all - length left) all (behind left) entries filled.1 (omega (arith, shorter left entry filled.0)), ties_begin octets all (behind left) entries filled.1)

pub length_begins : (all : ℕ) (left : List ℕ) (entries : List Revoked) → length (begins all left entries) ≡ length entries
length_begins all left [] = refl
length_begins all left (entry ∷ entries) = ap suc (length_begins all (behind left) entries)

pub begins_within : (all : ℕ) (left : List ℕ) (entries : List Revoked) → All (λ o. o ≤ all) (begins all left entries)
begins_within all left [] = All-nil (λ o. o ≤ all)
begins_within all left (entry ∷ entries) = All-cons (λ o. o ≤ all) (all - length left) (begins all (behind left) entries) (omega arith) (begins_within all (behind left) entries)

-- ---- what stands there

drop_front : (front left : List ℕ) → drop (length front) (front ++ left) ≡ left
drop_front [] left = refl
drop_front (b ∷ front) left = drop_front front left

stands : (octets before left : List ℕ) → octets ≡ before ++ left → drop (length octets - length left) octets ≡ left
stands octets before left parts =
    let size : length octets - length left ≡ length before = omega (arith, ap length parts, length-append before left) in
    ap (λ n. drop n octets) size ∙ ap (drop (length before)) parts ∙ drop_front before left

next_parts : (octets before left front next : List ℕ) → octets ≡ before ++ left → left ≡ front ++ next → octets ≡ (before ++ front) ++ next
next_parts octets before left front next parts first = parts ∙ ap (λ x. before ++ x) first ∙ sym (append_assoc before front next)

-- the serial alone is the entry's
serial_here : (left : List ℕ) (entry : Revoked) → Here left entry → serial_number left ≡ number_from_digits 256 entry.serial
serial_here left entry here =
    let s = serial_first left entry (behind left) here.read in
    let read : (sequence serial).read left ≡ got entry.raw_serial s.next = then_by ((lifted sequence_contents).read left) _ s.contents s.next s.outer ∙ then_by (serial.read s.contents) _ entry.raw_serial s.between s.inner in
    ap number_read read ∙ sym (number-without_leading_zeros entry.raw_serial) ∙ ap (number_from_digits 256) (sym s.digits)

pub numbers_begin : (octets before left : List ℕ) (entries : List Revoked) → Filled left entries → octets ≡ before ++ left → map (number_at_offset octets) (begins (length octets) left entries) ≡ serial_numbers entries
numbers_begin octets before left [] filled parts = refl
numbers_begin octets before left (entry ∷ entries) filled parts =
    let here : number_at_offset octets (length octets - length left) ≡ number_from_digits 256 entry.serial = ap serial_number (stands octets before left parts) ∙ serial_here left entry filled.0 in
    let others = numbers_begin octets (before ++ filled.0.front) (behind left) entries filled.1 (next_parts octets before left filled.0.front (behind left) parts filled.0.parts) in
    ap (λ n. n ∷ map (number_at_offset octets) (begins (length octets) (behind left) entries)) here ∙ ap (λ ns. number_from_digits 256 entry.serial ∷ ns) others

-- the entry at a position stands at the offset there
pub record StandsAt (octets : List ℕ) (entries : List Revoked) (position offset : ℕ) : Type 0 where
  pub entry : Revoked
  pub next : List ℕ
  pub member : slice_get entries position ≡ Some entry
  pub read : revoked.read (drop offset octets) ≡ got entry next
  pub within : offset ≤ length octets

some_is : (a b : ℕ) → ◌≡◌ (Some a) (Some b) → a ≡ b
some_is a b e = cc

pub stands_at : (octets before left : List ℕ) (entries : List Revoked) (position offset : ℕ) → Filled left entries → octets ≡ before ++ left → slice_get (begins (length octets) left entries) position ≡ Some offset
    → StandsAt octets entries position offset
stands_at octets before left [] position offset filled parts e = absurd cc
stands_at octets before left (entry ∷ entries) zero offset filled parts e =
    let is : length octets - length left ≡ offset = some_is (length octets - length left) offset e in
    record {
      entry = entry;
      next = behind left;
      member = refl;
      read = ap (λ n. revoked.read (drop n octets)) (sym is) ∙ ap (λ (x : List ℕ). revoked.read x) (stands octets before left parts) ∙ filled.0.read;
      within = omega (arith, is);
    }
stands_at octets before left (entry ∷ entries) (suc position) offset filled parts e =
    let there = stands_at octets (before ++ filled.0.front) (behind left) entries position offset filled.1 (next_parts octets before left filled.0.front (behind left) parts filled.0.parts) e in
    record { entry = there.entry; next = there.next; member = there.member; read = there.read; within = there.within }

-- ---- a walk over them

-- these are where the entries begin that were passed
pub record Begun (octets left : List ℕ) (items : List ℕ) : Type 0 where
  pub count : ℕ
  pub holds : HoldsEntries left count
  pub so_far : items ++ begins (length octets) left (entries_in left) ≡ beginnings octets

pub begun_none : (octets : List ℕ) (count : ℕ) → HoldsEntries octets count → Begun octets octets []
begun_none octets count holds = record { count = count; holds = holds; so_far = refl }

pub begun_first : (octets left items : List ℕ) → (begun : Begun octets left items) → 0 < length left → First left begun.count
begun_first octets left items begun some = first_entry left begun.count begun.holds some

pub begun_next : (octets left items : List ℕ) (begun : Begun octets left items) → 0 < length left → (rest : List ℕ) × (items ++ (length octets - length left) ∷ rest ≡ beginnings octets)
begun_next octets left items begun some =
    let first = first_entry left begun.count begun.holds some in
    (begins (length octets) (behind left) (entries_in (behind left)), ap (λ (es : List Revoked). items ++ begins (length octets) left es) (sym first.all) ∙ begun.so_far)

pub begun_more : (octets left items : List ℕ) (begun : Begun octets left items) → 0 < length left → Begun octets (behind left) (items ++ (length octets - length left) ∷ [])
unfolding begun_next
begun_more octets left items begun some =
    let first = first_entry left begun.count begun.holds some in
    record {
      count = begun.count - 1;
      holds = first.others;
      so_far = append_assoc items ((length octets - length left) ∷ []) (begins (length octets) (behind left) (entries_in (behind left))) ∙ (begun_next octets left items begun some).1;
    }

pub begun_shorter : (octets left items : List ℕ) (begun : Begun octets left items) → 0 < length left → length (behind left) < length left
begun_shorter octets left items begun some =
    let first = first_entry left begun.count begun.holds some in
    shorter left first.entry (here_of left begun.count begun.holds first)

pub begun_all : (octets left items : List ℕ) → Begun octets left items → length left ≡ 0 → items ≡ beginnings octets
begun_all octets left items begun none =
    sym (append-nil items) ∙ ap (λ (es : List Revoked). items ++ begins (length octets) left es) (sym (none_held left none)) ∙ begun.so_far

-- ---- whether offsets are those

-- fewer entries than offsets
pub too_many : (octets left offsets : List ℕ) (k : ℕ) → Begun octets left (take k offsets) → length left ≡ 0 → k < length offsets → offsets ≡ beginnings octets → ⊥
too_many octets left offsets k begun none within same =
    omega (arith, ap length (begun_all octets left (take k offsets) begun none), ap length same, length-take k offsets)

-- an entry begins elsewhere
pub elsewhere : (octets left offsets : List ℕ) (k d : ℕ) (begun : Begun octets left (take k offsets)) → 0 < length left → k < length offsets → offsets ≡ beginnings octets → get_or offsets k d ≡ length octets - length left
elsewhere octets left offsets k d begun some within same =
    let next = begun_next octets left (take k offsets) begun some in
    let long : length (take k offsets) ≡ k = omega (arith, length-take k offsets) in
    ap (λ xs. get_or xs k d) (same ∙ sym next.1) ∙ get_or_at (take k offsets) (length octets - length left) next.0 d k long

-- more entries than offsets
pub too_few : (octets left offsets : List ℕ) → Begun octets left offsets → 0 < length left → offsets ≡ beginnings octets → ⊥
too_few octets left offsets begun some same =
    let next = begun_next octets left offsets begun some in
    omega (arith, ap length (next.1 ∙ sym same), length-append offsets ((length octets - length left) ∷ next.0))
