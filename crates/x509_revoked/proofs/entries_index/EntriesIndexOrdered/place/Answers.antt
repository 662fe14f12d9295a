use Rattle.std.proofs.Common.{◌<◌, ◌∙◌, length, sym, ap, arith}
use Rattle.x509_revoked.specs.declared.headed_entry.HeadedEntry.{HeadedEntry}
use Rattle.x509_revoked.proofs.HeadedOrder.{length_placed, position_there}
use Rattle.x509_revoked.proofs.entries_index.EntriesIndexOrdered.place.Goals as goal

pub returns : goal.returns
returns c =
    let index = c.args.self.now in
    let there = c.index.result.now in
    let within : c.args.entry < length index.entries.items = omega (arith, c.requires, length_placed index.octets.now index.entries.items) in
    ap (λ (x : HeadedEntry). x.offset) c.index.ensures ∙ sym (position_there index.octets.now index.entries.items c.args.entry there within)
