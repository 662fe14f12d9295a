use Rattle.std.proofs.Common.{rules, ◌≡◌}
use Rattle.std.specs.Cmp.{nat_cmp_total, on_total, then_total}
use Rattle.std.specs.Ordering.{is_lt}
use Rattle.std.proofs.lemmas.Fn.{always_returns_same}
use Rattle.std.proofs.lemmas.List.Sorted.{ranks_by}
use Rattle.x509_revoked.specs.HeadedEntries.{by_head}
use Rattle.x509_revoked.specs.SerialOrder.{number_at_offset}
use Rattle.x509_revoked.specs.declared.headed_entry.HeadedEntry.{HeadedEntry}
use Rattle.x509_revoked.proofs.serial_order.sort.Goals as goal

pub returns-clause-sorted : goal.returns-clause-sorted
returns-clause-sorted c =
    let octets = c.args.octets.now in
    let by_number = then_total (on_total (number_at_offset octets) nat_cmp_total) nat_cmp_total in
    c.sort_unstable_by.ensures.sorted (λ x y. is_lt (by_head octets x y))
    (ranks_by (then_total (on_total (λ (e : HeadedEntry). e.head) nat_cmp_total) (on_total (λ (e : HeadedEntry). e.offset) by_number)) (λ x. x))
    (always_returns_same _ (λ a r. is_lt r ≡ is_lt (by_head octets a.0.now a.1.0.now)) _ (λ a r f' k. search rules))
