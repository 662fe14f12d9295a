use Rattle.std.proofs.Common.{Some, sym, ◌∙◌, ap, arith, rules}
use Rattle.std.proofs.lemmas.Grind.{common_steps}
use Rattle.std.proofs.lemmas.List.{length-take-le}
use Rattle.x509_report_lines.proofs.Split.{one_more, no_more}
use Rattle.x509_report_lines.proofs.elements.split_elements.Goals as goal

pub elements-preserved : goal.elements-preserved
elements-preserved c =
    record {
      split = one_more _ _ _ _ _ _ c.in_ok-push.ensures.items (grind (arith, common_steps)) (sym c.in-Some.ensures.size ∙ ap Some (sym (length-take-le c.in-Some.size c.elements.rest.now (omega (arith, c.in-Some.ensures.within.1))))) c.elements.invariant.split;
      whole = grind (arith, common_steps, c.in_ok-push.ensures.items, c.elements.invariant.whole);
    }

pub returns-clause-split : goal.returns-clause-split
returns-clause-split c = no_more _ _ _ (search rules) c.elements.invariant.split
