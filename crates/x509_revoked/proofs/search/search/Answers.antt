use Rattle.std.proofs.Common.{◌≡◌, ◌<◌, ◌≤◌, ◌+◌, ◌-◌, ◌/◌, length, Some, ap, sym, ◌∙◌, arith, inl, inr}
use Rattle.std.proofs.lemmas.Bool.{cases_lt}
use Rattle.std.proofs.lemmas.Bool.Decides.{nat_tests}
use Rattle.x509_der.specs.Unsigned.{unsigned_number}
use Rattle.x509_revoked.specs.Entries.{position_in, position_at, number_at}
use Rattle.x509_revoked.proofs.Halves.{digits_halved, digits_fit, less_up_to, not_less_from, found_first, found_nowhere}
use Rattle.x509_revoked.proofs.search.search.Goals as goal

pub halves-preserved-then-is_lt : goal.halves-preserved-then-is_lt
halves-preserved-then-is_lt g c =
    let xs = g.R.Ordered.indexed c.args.entries.now in
    let n = unsigned_number c.args.serial.now in
    let k = c.halves.first + c.halves.size / 2 in
    let within : k < length xs = omega (arith, c.halves.invariant.within, c.halves-test.true) in
    let less : number_at xs k < n = grind (arith, nat_tests, c.compare.ensures.is, c.new-sought.ensures, c.is_lt.ensures, c.if-is_lt.true) in
    let digit = digits_halved (c.halves.size - (c.halves.size / 2 + 1)) c.halves.size (omega (arith, c.halves-test.true)) (omega arith) in
    record {
      within = omega (arith, c.halves.invariant.within, c.halves-test.true);
      less = λ j lt. less_up_to xs c.requires n k within less j (omega (arith, lt));
      not_less = λ j le. c.halves.invariant.not_less j (omega (arith, le, c.halves-test.true));
      counted = omega (arith, c.halves.invariant.counted, c.compare.ensures.counted, digit);
      fits = omega (arith, c.halves.invariant.fits, c.compare.ensures.counted, digit, digits_fit c.halves.size (omega (arith, c.halves.auto.size-fits)));
      some = λ _. omega (arith, c.compare.ensures.counted);
    }

pub halves-preserved : goal.halves-preserved
halves-preserved g c =
    let xs = g.R.Ordered.indexed c.args.entries.now in
    let n = unsigned_number c.args.serial.now in
    let k = c.halves.first + c.halves.size / 2 in
    let within : k < length xs = omega (arith, c.halves.invariant.within, c.halves-test.true) in
    let not_less : n ≤ number_at xs k = grind (arith, nat_tests, c.compare.ensures.is, c.new-sought.ensures, c.is_lt.ensures, c.if-is_lt.false) in
    let digit = digits_halved (c.halves.size / 2) c.halves.size (omega (arith, c.halves-test.true)) (omega arith) in
    record {
      within = omega (arith, c.halves.invariant.within, c.halves-test.true);
      less = c.halves.invariant.less;
      not_less = λ j le lt. not_less_from xs c.requires n k not_less j le lt;
      counted = omega (arith, c.halves.invariant.counted, c.compare.ensures.counted, digit);
      fits = omega (arith, c.halves.invariant.fits, c.compare.ensures.counted, digit, digits_fit c.halves.size (omega (arith, c.halves.auto.size-fits)));
      some = λ _. omega (arith, c.compare.ensures.counted);
    }

pub returns-then-first-count-clause-found : goal.returns-then-first-count-clause-found
returns-then-first-count-clause-found g c =
    let xs = g.R.Ordered.indexed c.args.entries.now in
    let n = unsigned_number c.args.serial.now in
    sym (found_nowhere xs n (λ j lt same. omega (arith, same, c.halves.invariant.less j (omega (arith, lt, c.count-count.ensures, c.if-first-count.true)))))

pub returns-then-is_ne-clause-found : goal.returns-then-is_ne-clause-found
returns-then-is_ne-clause-found g c =
    let xs = g.R.Ordered.indexed c.args.entries.now in
    let n = unsigned_number c.args.serial.now in
    let k = c.halves.first in
    let within : k < length xs = omega (arith, c.halves.invariant.within, c.count-count.ensures, c.if-first-count.false) in
    let not_less : n ≤ number_at xs k = c.halves.invariant.not_less k (omega (arith, c.halves-test.false)) within in
    let more : n + 1 ≤ number_at xs k = grind (arith, nat_tests, not_less, c.compare-2.ensures.is, c.new-sought.ensures, c.is_ne.ensures, c.if-is_ne.true) in
    sym (found_nowhere xs n (λ j lt same. elim (cases_lt j k) [
      | inl before ↦ omega (arith, same, c.halves.invariant.less j before)
      | inr from ↦ omega (arith, same, not_less_from xs c.requires (n + 1) k more j from lt)
    ]))

pub returns-clause-found : goal.returns-clause-found
returns-clause-found g c =
    let xs = g.R.Ordered.indexed c.args.entries.now in
    let n = unsigned_number c.args.serial.now in
    let k = c.halves.first in
    let within : k < length xs = omega (arith, c.halves.invariant.within, c.count-count.ensures, c.if-first-count.false) in
    let same : number_at xs k ≡ n = grind (arith, nat_tests, c.compare-2.ensures.is, c.new-sought.ensures, c.is_ne.ensures, c.if-is_ne.false) in
    let found : position_in xs n ≡ Some (position_at xs k) = found_first xs n k within same c.halves.invariant.less in
    sym (found ∙ ap Some (sym c.place.ensures))
