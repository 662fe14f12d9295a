use Rattle.std.proofs.Common.{◌++◌, ap, sym, ◌∙◌, arith}
use Rattle.std.proofs.lemmas.Grind.{common_steps}
use Rattle.std.proofs.lemmas.List.{at_drop_more, drop_all, append-nil}
use Rattle.x509_report_lines.specs.Lines.{broken}
use Rattle.x509_report_lines.proofs.page.push_broken.Goals as goal

pub loop-n-preserved : goal.loop-n-preserved
unfolding broken
loop-n-preserved c = λ kept.
    let digit = c.push_digit.ensures kept in
    let break = c.push_break.ensures digit.0 in
    let before = c.loop-n.invariant break.0 in
    let left = at_drop_more (broken c.args.depth c.loop-n.n) c.args.digits.now c.loop-n.n 0 c.loop-n-test.true in
    (before.0, grind (arith, common_steps, left, break.1, digit.1, before.1))

pub returns : goal.returns
unfolding broken
returns c = λ kept.
    let before = c.loop-n.invariant kept in (
      before.0,
      sym (append-nil c.loop-n.text.so_far)
          ∙ ap (λ ds. c.loop-n.text.so_far ++ broken c.args.depth c.loop-n.n ds) (sym (drop_all c.loop-n.n c.args.digits.now c.loop-n-test.false))
          ∙ before.1,
    )
