use Rattle.std.proofs.Common.{◌≡◌, ◌<◌, ◌∙◌, length, sym, ap, subst, nat_cmp, arith}
use Rattle.x509_der.specs.Unsigned.{unsigned_number}
use Rattle.x509_revoked.specs.Entries.{number_at, number_of}
use Rattle.x509_revoked.specs.OctetsIndex.{placed_in}
use Rattle.x509_revoked.specs.SerialOrder.{number_at_offset}
use Rattle.x509_revoked.specs.declared.headed_entry.HeadedEntry.{HeadedEntry}
use Rattle.x509_revoked.proofs.HeadedOrder.{length_placed, number_there, less_there, greater_there}
use Rattle.x509_revoked.proofs.entries_index.EntriesIndexOrdered.compare.Goals as goal

pub returns-then-there-head-clause-is : goal.returns-then-there-head-clause-is
returns-then-there-head-clause-is c =
    let index = c.args.self.now in
    let there = c.index-there.result.now in
    let within : c.args.entry < length index.entries.items = omega (arith, c.requires.within, length_placed index.octets.now index.entries.items) in
    let less : there.head < c.head-head.result = omega (arith, c.if-there-head.true) in
    less_there index.octets.now index.entries.items c.args.entry (number_of c.args.serial.now) c.head-head.result there index.are_headed within
    c.head-head.ensures (subst (λ (x : HeadedEntry). x.head < c.head-head.result) c.index-there.ensures less)

pub returns-then-there-head-2-clause-is : goal.returns-then-there-head-2-clause-is
returns-then-there-head-2-clause-is c =
    let index = c.args.self.now in
    let there = c.index-there.result.now in
    let within : c.args.entry < length index.entries.items = omega (arith, c.requires.within, length_placed index.octets.now index.entries.items) in
    let more : c.head-head.result < there.head = omega (arith, c.if-there-head-2.true) in
    greater_there index.octets.now index.entries.items c.args.entry (number_of c.args.serial.now) c.head-head.result there index.are_headed within
    c.head-head.ensures (subst (λ (x : HeadedEntry). c.head-head.result < x.head) c.index-there.ensures more)

pub returns-clause-is : goal.returns-clause-is
returns-clause-is c =
    let index = c.args.self.now in
    let there = c.index-there.result.now in
    let within : c.args.entry < length index.entries.items = omega (arith, c.requires.within, length_placed index.octets.now index.entries.items) in
    let here : number_at (placed_in index) c.args.entry ≡ number_at_offset index.octets.now there.offset =
    number_there index.octets.now index.entries.items c.args.entry there within
    ∙ ap (λ (x : HeadedEntry). number_at_offset index.octets.now x.offset) (sym c.index-there.ensures) in
    c.cmp.ensures ∙ ap (λ n. nat_cmp n (unsigned_number c.serial.result.now)) (c.serial_from.ensures ∙ sym here)
    ∙ ap (nat_cmp (number_at (placed_in index) c.args.entry)) c.serial.ensures
