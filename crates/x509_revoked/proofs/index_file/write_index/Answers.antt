use Rattle.std.proofs.Common.{◌≡◌, ◌++◌, List, ◌∷◌, [], ◌∙◌, ◌+◌, take, get_or, length, sym, ap, append_assoc, arith}
use Rattle.std.specs.Int.{w32, to_be_bytes}
use Rattle.std.proofs.lemmas.List.{length-map, take_all, take_more}
use Rattle.x509_revoked.specs.HeadedEntries.{offsets_of}
use Rattle.x509_revoked.specs.IndexFile.{head_octets, offset_octets}
use Rattle.x509_revoked.specs.declared.headed_entry.HeadedEntry.{HeadedEntry}
use Rattle.x509_revoked.proofs.Codes as codes
use Rattle.x509_revoked.proofs.HeadedOrder.{offsets_more}
use Rattle.x509_revoked.proofs.index_file.write_index.Goals as goal

pub loop-entry-preserved : goal.loop-entry-preserved
loop-entry-preserved c =
    let entries = c.args.entries.now in
    let i = c.loop-entry.entry-index in
    let none : HeadedEntry = record { head = 0; offset = 0 } in
    let entry : HeadedEntry = get_or entries i none in
    let head = head_octets (length entries) c.args.octets in
    let so_far = offset_octets (offsets_of (take i entries)) in
    let next : take (i + 1) entries ≡ take i entries ++ entry ∷ [] = take_more entries i none c.loop-entry-test.true in
    let more : offset_octets (offsets_of (take (i + 1) entries)) ≡ so_far ++ to_be_bytes w32 entry.offset =
    ap (λ (xs : List HeadedEntry). offset_octets (offsets_of xs)) next ∙ ap offset_octets (offsets_more (take i entries) entry)
    ∙ codes.offsets_more (offsets_of (take i entries)) entry.offset in
    let extended : c.extend_from_slice-in-loop-entry.new.self.items ≡ c.loop-entry.file.items ++ to_be_bytes w32 entry.offset =
    grind (arith, c.extend_from_slice-in-loop-entry.ensures.items, c.is_err-in-loop-entry.ensures, c.if-is_err-2.false, c.to_be_bytes.ensures) in
    extended ∙ ap (λ x. x ++ to_be_bytes w32 entry.offset) c.loop-entry.invariant ∙ append_assoc head so_far (to_be_bytes w32 entry.offset)
    ∙ ap (λ x. head ++ x) (sym more)

pub returns : goal.returns
returns c =
    let entries = c.args.entries.now in
    c.loop-entry.invariant ∙ ap (λ (xs : List HeadedEntry). head_octets (length entries) c.args.octets ++ offset_octets (offsets_of xs))
    (take_all c.loop-entry.entry-index entries c.loop-entry-test.false)
    ∙ ap (λ n. head_octets n c.args.octets ++ offset_octets (offsets_of entries)) (sym (length-map entries (λ (x : HeadedEntry). x.offset)))
