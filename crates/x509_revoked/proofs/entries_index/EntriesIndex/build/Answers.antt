use Rattle.std.proofs.Common.{subst}
use Rattle.std.proofs.lemmas.List.{length-map}
use Rattle.x509_lists.specs.EntriesIn.{HoldsEntries}
use Rattle.x509_revoked.specs.HeadedEntries.{offsets_of}
use Rattle.x509_revoked.specs.declared.headed_entry.HeadedEntry.{HeadedEntry}
use Rattle.x509_revoked.proofs.HeadedOrder.{headed_index}
use Rattle.x509_revoked.proofs.Placed.{holds_as_many}
use Rattle.x509_revoked.proofs.entries_index.EntriesIndex.build.Goals as goal

pub invariant_of-result : goal.invariant_of-result
invariant_of-result c =
    let octets = c.as_bytes-octets.result.now in
    let sorted = c.sort.new.entries.items in
    let begin = c.in_ok-indexed.ensures.begin in
    let made = headed_index octets c.in_ok-indexed.indexed.items sorted begin.0 begin.1 c.sort.ensures.permutation c.sort.ensures.sorted in
    record {
      holds = subst (HoldsEntries octets) (length-map sorted (λ (x : HeadedEntry). x.offset))
          (holds_as_many octets (offsets_of sorted) _ c.read_beginnings.ensures.held made.0);
      is_index = made.0;
      are_headed = made.1;
    }
