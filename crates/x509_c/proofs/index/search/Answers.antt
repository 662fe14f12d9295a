-- Searching by halves, among rows that are in order.
use Rattle.std.proofs.Common.{◌≡◌, ◌<◌, ◌≤◌, ◌+◌, ◌/◌, [], length, map, get_or, Some, ap, sym, ◌∙◌, arith, inl, inr}
use Rattle.std.proofs.lemmas.List.{length-map}
use Rattle.std.proofs.lemmas.Bool.{cases_lt}
use Rattle.std.proofs.lemmas.Bool.Decides.{nat_tests}
use Rattle.std.specs.Int.Digits.{number_from_digits}
use Rattle.x509_der.specs.Unsigned.{unsigned_number}
use Rattle.x509_revoked.specs.Entries.{number_at, position_at, position_in}
use Rattle.x509_revoked.proofs.Halves.{less_up_to, not_less_from, found_first, found_nowhere}
use Rattle.x509_c.specs.Index.{row_of}
use Rattle.x509_c.specs.declared.index.IndexRow.{IndexRow}
use Rattle.x509_c.proofs.Ranks.{number_here, position_here}
use Rattle.x509_c.proofs.index.search.Goals as goal

abbrev none : IndexRow
none = record { serial = record { ref_ptr = (0, 0); now = [] }; position = 0 }

pub halves-init : goal.halves-init
halves-init c = record {
  within = omega arith;
  less = λ _ j lt. absurd (omega (arith, lt));
  not_less = λ _ j le lt. absurd (omega (arith, le, lt, length-map c.args.rows.now row_of));
}

pub halves-preserved-then-is_lt : goal.halves-preserved-then-is_lt
halves-preserved-then-is_lt c =
    let xs = map row_of c.args.rows.now in
    let n = unsigned_number c.args.serial.now in
    let k = c.halves.first + c.halves.size / 2 in
    let within : k < length c.args.rows.now = omega (arith, c.halves.invariant.within, c.halves-test.true) in
    let here : number_at xs k ≡ number_from_digits 256 (get_or c.args.rows.now k none).serial.now = number_here c.args.rows.now k none within in
    let less : number_at xs k < n = grind (arith, nat_tests, here, c.compare.ensures, c.is_lt.ensures, c.if-is_lt.true) in
    record {
      within = omega (arith, c.halves.invariant.within, c.halves-test.true);
      less = λ order j lt. less_up_to xs order n k (omega (arith, within, length-map c.args.rows.now row_of)) less j (omega (arith, lt));
      not_less = λ order j le. c.halves.invariant.not_less order j (omega (arith, le, c.halves-test.true));
    }

pub halves-preserved : goal.halves-preserved
halves-preserved c =
    let xs = map row_of c.args.rows.now in
    let n = unsigned_number c.args.serial.now in
    let k = c.halves.first + c.halves.size / 2 in
    let within : k < length c.args.rows.now = omega (arith, c.halves.invariant.within, c.halves-test.true) in
    let here : number_at xs k ≡ number_from_digits 256 (get_or c.args.rows.now k none).serial.now = number_here c.args.rows.now k none within in
    let not_less : n ≤ number_at xs k = grind (arith, nat_tests, here, c.compare.ensures, c.is_lt.ensures, c.if-is_lt.false) in
    record {
      within = omega (arith, c.halves.invariant.within, c.halves-test.true);
      less = c.halves.invariant.less;
      not_less = λ order j le lt. not_less_from xs order n k not_less j le lt;
    }

pub returns-then-first-count : goal.returns-then-first-count
returns-then-first-count c order =
    let xs = map row_of c.args.rows.now in
    let n = unsigned_number c.args.serial.now in
    sym (found_nowhere xs n (λ j lt same. omega (arith, same, c.halves.invariant.less order j (omega (arith, lt, length-map c.args.rows.now row_of, c.if-first-count.true)))))

pub returns-then-is_ne : goal.returns-then-is_ne
returns-then-is_ne c order =
    let xs = map row_of c.args.rows.now in
    let n = unsigned_number c.args.serial.now in
    let k = c.halves.first in
    let within : k < length c.args.rows.now = omega (arith, c.halves.invariant.within, c.if-first-count.false) in
    let here : number_at xs k ≡ number_from_digits 256 (get_or c.args.rows.now k none).serial.now = number_here c.args.rows.now k none within in
    let not_less : n ≤ number_at xs k = c.halves.invariant.not_less order k (omega (arith, c.halves-test.false)) (omega (arith, within, length-map c.args.rows.now row_of)) in
    let more : n + 1 ≤ number_at xs k = grind (arith, nat_tests, here, not_less, c.compare-2.ensures, c.is_ne.ensures, c.if-is_ne.true) in
    sym (found_nowhere xs n (λ j lt same. elim (cases_lt j k) [
      | inl before ↦ omega (arith, same, c.halves.invariant.less order j before)
      | inr from ↦ omega (arith, same, not_less_from xs order (n + 1) k more j from lt)
    ]))

pub returns : goal.returns
returns c order =
    let xs = map row_of c.args.rows.now in
    let n = unsigned_number c.args.serial.now in
    let k = c.halves.first in
    let within : k < length c.args.rows.now = omega (arith, c.halves.invariant.within, c.if-first-count.false) in
    let here : number_at xs k ≡ number_from_digits 256 (get_or c.args.rows.now k none).serial.now = number_here c.args.rows.now k none within in
    let same : number_at xs k ≡ n = grind (arith, nat_tests, here, c.compare-2.ensures, c.is_ne.ensures, c.if-is_ne.false) in
    let found : position_in xs n ≡ Some (position_at xs k) = found_first xs n k (omega (arith, within, length-map c.args.rows.now row_of)) same (c.halves.invariant.less order) in
    sym (found ∙ ap Some (position_here c.args.rows.now k none within))
