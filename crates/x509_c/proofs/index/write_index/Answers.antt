-- The rows in the order of the list, sorted.
use Rattle.std.proofs.Common.{◌≡◌, ◌<◌, ◌≤◌, List, length, map, get_or, sym, ap, ◌∙◌, arith, rules}
use Rattle.std.specs.Int.Digits.{number_from_digits}
use Rattle.std.proofs.lemmas.List.{length-map}
use Rattle.x509_lists.specs.FindRevoked.{serial_numbers}
use Rattle.x509_lists.specs.RevokedCertificate.{Revoked, revoked_of}
use Rattle.x509_revoked.specs.Entries.{Indexed, indexed_from}
use Rattle.x509_c.specs.Index.{row_of}
use Rattle.x509_c.specs.declared.index.IndexRow.{IndexRow}
use Rattle.x509_c.proofs.Ranks.{IsRowOf, index_sorted, indexed_at, rows_indexed, serial_here}
use Rattle.x509_c.proofs.Rows.{rows_more}
use Rattle.x509_c.proofs.index.write_index.Goals as goal

-- how many numbers there are
counted : (entries : List Revoked) → length (serial_numbers entries) ≡ length entries
counted entries = length-map entries (λ (r : Revoked). number_from_digits 256 r.serial)

pub loop-i-preserved : goal.loop-i-preserved
loop-i-preserved c =
    let entries = c.args.revoked.now in
    let numbers = serial_numbers (map revoked_of entries) in
    let i = c.loop-i.i in
    let entry = c.index-revoked-i.result in
    let within : i < length entries = search rules in
    let row : IndexRow = record { serial = c.as_bytes.result; position = i } in
    let number : number_from_digits 256 c.as_bytes.result.now ≡ get_or numbers i 0 = ap (number_from_digits 256) c.as_bytes.ensures.digits ∙ sym (serial_here entries i entry within) in
    let below : i < length numbers = omega (arith, within, counted (map revoked_of entries), length-map entries revoked_of) in
    let here : (x : Indexed) → row_of row ≡ get_or (indexed_from 0 numbers) i x
    = λ x. ap (λ n. record { number = n; position = i }) number ∙ sym (indexed_at 0 numbers i 0 x below ∙ ap (λ p. record { number = get_or numbers i 0; position = p }) (omega arith)) in
    rows_more IsRowOf i c.loop-i.rows (indexed_from 0 numbers) row (search rules) c.loop-i.invariant here

pub returns : goal.returns
returns c =
    let entries = c.args.revoked.now in
    let numbers = serial_numbers (map revoked_of entries) in
    let rows = c.loop-i.rows in
    let count : length rows ≡ length numbers = omega (arith, counted (map revoked_of entries), length-map entries revoked_of) in
    let done : length numbers ≤ c.loop-i.i = omega (arith, counted (map revoked_of entries), length-map entries revoked_of) in
    index_sorted numbers rows c.sort.new.rows (rows_indexed numbers rows c.loop-i.i count done c.loop-i.invariant) count (omega arith) c.sort.ensures.same c.sort.ensures.sorted
