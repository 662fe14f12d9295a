-- The order of the ranks.
use Rattle.std.proofs.Common.{◌<◌, ◌^◌, rules, ◌∙◌}
use Rattle.std.specs.Int.Digits.{number_from_digits}
use Rattle.x509_c.proofs.Ranks.{ranks_compare}
use Rattle.x509_c.proofs.index.order.Goals as goal

pub returns : goal.returns
returns c =
    let a : c.args.a.position < 2 ^ 64 = search rules in
    let b : c.args.b.position < 2 ^ 64 = search rules in
    let both = ranks_compare (number_from_digits 256 c.args.a.serial.now) (number_from_digits 256 c.args.b.serial.now) c.args.a.position c.args.b.position a b in
    c.then.ensures ∙ simp (c.cmp-serials.ensures, c.cmp.ensures, c.new.ensures.number, c.new-2.ensures.number) both
