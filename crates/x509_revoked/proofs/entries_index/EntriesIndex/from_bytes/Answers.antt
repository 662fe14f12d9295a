use Rattle.std.proofs.Common.{rules, ◌≡◌, ◌<◌, ◌^◌, ◌∙◌, length, sym, ap, subst, inl, inr, arith}
use Rattle.std.specs.List.Sorted.{IsPermutation, IsSorted}
use Rattle.std.proofs.lemmas.List.{length-map}
use Rattle.std.proofs.lemmas.List.Sorted.{IsNonDecreasingBy-from_sort}
use Rattle.x509_lists.specs.EntriesIn.{HoldsEntries, entries_in}
use Rattle.x509_lists.specs.RevokedEntries.{octets_of, entries_of}
use Rattle.x509_revoked.specs.HeadedEntries.{offsets_of, by_head}
use Rattle.x509_revoked.specs.IndexFile.{index_octets}
use Rattle.x509_revoked.specs.IndexOf.{IsFileOf}
use Rattle.x509_revoked.specs.SerialOrder.{by_serial}
use Rattle.x509_revoked.specs.declared.headed_entry.HeadedEntry.{HeadedEntry}
use Rattle.x509_revoked.proofs.HeadedOrder.{heads_sorted, serials_sorted}
use Rattle.x509_revoked.proofs.Placed.{ascending_begin, holds_as_many, index_fits, index_kept, no_file, one_index}
use Rattle.x509_revoked.proofs.entries_index.EntriesIndex.from_bytes.Goals as goal

pub returns-in-Err : goal.returns-in-Err
returns-in-Err c =
    elim c.in-Err.ensures [
      | inl memory ↦ inl memory
      | inr none ↦ inr (inr (no_file (entries_of c.args.entries.now) c.as_bytes-octets.result.now (octets_of c.args.entries.now) c.args.file.now c.len.result c.as_bytes-octets.ensures.octets c.as_bytes-octets.ensures.holds c.len.ensures (λ kept index counted is. none kept counted is)))
    ]

pub returns-then-not-are_beginnings : goal.returns-then-not-are_beginnings
returns-then-not-are_beginnings c =
    let octets = c.as_bytes-octets.result.now in
    let offsets = c.in-Ok.offsets.items in
    let ascending = c.sort_unstable.new.self.items in
    inr (inr (no_file (entries_of c.args.entries.now) octets (octets_of c.args.entries.now) c.args.file.now c.len.result c.as_bytes-octets.ensures.octets c.as_bytes-octets.ensures.holds c.len.ensures (λ kept index counted is.
    (let short : length octets < 2 ^ 32 = omega (arith, c.if-octets.false) in
    let same : offsets ≡ kept = one_index (length octets) offsets kept c.in-Ok.ensures.2 (index_fits octets kept short index) (c.in-Ok.ensures.0 ∙ sym counted) (sym c.in-Ok.ensures.1 ∙ is) in
    let moved : IsPermutation kept ascending = subst (λ xs. IsPermutation xs ascending) same c.sort_unstable.ensures.permutation in
    let begin = ascending_begin octets ascending kept c.len-2.result c.are_beginnings.ensures.held index (IsNonDecreasingBy-from_sort (λ x. x) ascending c.sort_unstable.ensures.sorted) moved in
    let yes = c.are_beginnings.ensures.are.1 (c.as_slice-2.ensures.value ∙ begin) in
    grind (arith, yes, c.if-not-are_beginnings.true)))))

pub returns-then-not-are_in_order : goal.returns-then-not-are_in_order
returns-then-not-are_in_order c =
    let octets = c.as_bytes-octets.result.now in
    let offsets = c.in-Ok.offsets.items in
    let indexed = c.in_ok-indexed.indexed.items in
    let made = c.in_ok-indexed.ensures in
    inr (inr (no_file (entries_of c.args.entries.now) octets (octets_of c.args.entries.now) c.args.file.now c.len.result c.as_bytes-octets.ensures.octets c.as_bytes-octets.ensures.holds c.len.ensures (λ kept index counted is.
    (let short : length octets < 2 ^ 32 = omega (arith, c.if-octets.false) in
    let same : offsets ≡ kept = one_index (length octets) offsets kept c.in-Ok.ensures.2 (index_fits octets kept short index) (c.in-Ok.ensures.0 ∙ sym counted) (sym c.in-Ok.ensures.1 ∙ is) in
    let order = heads_sorted octets indexed made.1 (subst (λ xs. IsSorted (by_serial octets) xs) (sym (made.0 ∙ c.as_slice.ensures.value
    ∙ same)) index.in_order) in
    let yes = c.are_in_order.ensures.1 (subst (λ xs. IsSorted (by_head octets) xs) (sym c.as_slice-3.ensures.value) order) in
    grind (arith, yes, c.if-not-are_in_order.true)))))

pub invariant_of-result : goal.invariant_of-result
invariant_of-result c =
    let octets = c.as_bytes-octets.result.now in
    let indexed = c.in_ok-indexed.indexed.items in
    let made = c.in_ok-indexed.ensures in
    let ascending = c.sort_unstable.new.self.items in
    let moved : IsPermutation (offsets_of indexed) ascending = subst (λ xs. IsPermutation xs ascending) (sym (made.0
    ∙ c.as_slice.ensures.value)) c.sort_unstable.ensures.permutation in
    let begin = sym c.as_slice-2.ensures.value ∙ c.are_beginnings.ensures.are.0 (search rules) in
    let order = serials_sorted octets indexed made.1
    (subst (λ xs. IsSorted (by_head octets) xs) c.as_slice-3.ensures.value (c.are_in_order.ensures.0 (search rules))) in
    let index = index_kept octets (offsets_of indexed) ascending begin moved order in
    record {
      holds = subst (HoldsEntries octets) (length-map indexed (λ (x : HeadedEntry). x.offset))
          (holds_as_many octets (offsets_of indexed) c.len-2.result c.are_beginnings.ensures.held index);
      is_index = index;
      are_headed = made.1;
    }

pub returns : goal.returns
returns c =
    let octets = c.as_bytes-octets.result.now in
    let indexed = c.in_ok-indexed.indexed.items in
    let made = c.in_ok-indexed.ensures in
    let ascending = c.sort_unstable.new.self.items in
    let own : offsets_of indexed ≡ c.in-Ok.offsets.items = made.0 ∙ c.as_slice.ensures.value in
    let moved : IsPermutation (offsets_of indexed) ascending = subst (λ xs. IsPermutation xs ascending) (sym own) c.sort_unstable.ensures.permutation in
    let begin = sym c.as_slice-2.ensures.value ∙ c.are_beginnings.ensures.are.0 (search rules) in
    let order = serials_sorted octets indexed made.1
    (subst (λ xs. IsSorted (by_head octets) xs) c.as_slice-3.ensures.value (c.are_in_order.ensures.0 (search rules))) in
    let kept : IsFileOf octets c.args.file.now = (
      offsets_of indexed,
      index_kept octets (offsets_of indexed) ascending begin moved order,
      c.in-Ok.ensures.1
          ∙ ap (index_octets (length octets)) (sym own),
    ) in
    (c.as_bytes-octets.ensures.octets, ap entries_in c.as_bytes-octets.ensures.octets, kept)
