use Rattle.std.proofs.Common.{◌+◌, ◌*◌, ◌<◌, ℕ, get_or, take, arith, sym, ap, ◌∙◌}
use Rattle.std.proofs.lemmas.Int.Digits.{number_more}
use Rattle.std.specs.Int.Digits.{number_from_digits}
use Rattle.x509_der.proofs.Decimals.{front_small, two_more}
use Rattle.x509_der.proofs.decimal.in_two_digits.Goals as goal

pub overflow_mul-high : goal.overflow_mul-high
overflow_mul-high c =
    let each = λ (k : ℕ). let fits = c.type_inv.octets k in let small : get_or c.args.octets.now k 0 < 256 = omega arith in small in
    let bound = front_small c.args.octets.now c.loop-octet.octet-index 19 (omega arith) (omega arith) each in
    omega arith

pub overflow_add-high : goal.overflow_add-high
overflow_add-high c =
    let each = λ (k : ℕ). let fits = c.type_inv.octets k in let small : get_or c.args.octets.now k 0 < 256 = omega arith in small in
    let bound = front_small c.args.octets.now c.loop-octet.octet-index 19 (omega arith) (omega arith) each in
    let fits = c.type_inv.octets c.loop-octet.octet-index in
    omega arith

pub loop-octet-preserved : goal.loop-octet-preserved
loop-octet-preserved c = record {
  value = two_more c.loop-octet.high c.loop-octet.low c.from.result _ c.loop-octet.invariant.value
      ∙ ap (λ d. number_from_digits 256 (take c.loop-octet.octet-index c.args.octets.now) * 256 + d) c.from.ensures
      ∙ sym (number_more 256 c.args.octets.now c.loop-octet.octet-index c.loop-octet-test.true);
  low = omega arith;
}

pub returns-clause-small : goal.returns-clause-small
returns-clause-small c =
    let each = λ (k : ℕ). let fits = c.type_inv.octets k in let small : get_or c.args.octets.now k 0 < 256 = omega arith in small in
    let bound = front_small c.args.octets.now c.loop-octet.octet-index 20 (omega arith) (omega arith) each in
    omega arith
