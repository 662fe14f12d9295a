-- One line more, and what stands behind the last.
use Rattle.std.proofs.Common.{◌≡◌, ◌∷◌, [], ◌++◌, drop, take, subst, sym, ap, ◌∙◌}
use Rattle.x509_elements.specs.Elements.{elements_of, line_of}
use Rattle.x509_elements.specs.Walks.{IsNext, left}
use Rattle.x509_report.specs.Dumps.{element_line, mark_in, marked, marked_lines, open_told, value_marks, values_behind}
use Rattle.x509_report.specs.Told.{Prints, alone}
use Rattle.x509_report.specs.Views.{part_of}
use Rattle.x509_report.proofs.Prints.{halted_any, leads_step, leads_stop}
use Rattle.x509_report.proofs.dumps.report_lines.Goals as goal

pub loop-found-init : goal.loop-found-init
loop-found-init g c =
    let view = c.args.view.now in
    let octets = c.args.octets.now in
    let same : c.into_iter-found-iterator.result ≡ c.dump-found-items.result = cc (c.into_iter-found-iterator.ensures.into_iter_gives) in
    let lines : left c.into_iter-found-iterator.result ≡ elements_of (part_of view) octets = ap left same ∙ c.dump-found-items.ensures.lines ∙ ap (λ p. elements_of p octets) c.part_of.ensures in
    λ new p. subst (λ ls. Prints c.args.printer.now new (alone (marked_lines c.args.form view octets c.args.values.now 0 ls))) lines p

pub returns-then-has_stopped : goal.returns-then-has_stopped
returns-then-has_stopped g c = leads_stop _ _ _ _ c.if-has_stopped.ensures c.loop-found.invariant

pub returns-in_default : goal.returns-in_default
returns-in_default g c = c.loop-found.invariant _ (halted_any _ _ _ c.stop.ensures)

pub loop-found-preserved : goal.loop-found-preserved
unfolding marked_lines
loop-found-preserved g c =
    let form = c.args.form in
    let view = c.args.view.now in
    let octets = c.args.octets.now in
    let values = c.loop-found.left.now in
    let opened = c.loop-found.opened in
    let line = line_of c.in-Ok.line in
    let now = c.loop-found.printer in
    let next = c.report_line-opened.new.printer in
    let s = c.loop-found.found-iterator in
    let t = c.next.new.self in
    let step : left s ≡ line ∷ left t = subst (λ f. IsNext s f t) c.in-Ok.is c.in-Some.ensures.steps in
    let count = c.count_in-count.ensures.count in
    let written = subst (λ n. Prints now next (alone ((element_line form opened line ++ (mark_in form view line ++ value_marks form (take n values))) ∷ []))) count c.report_line-opened.ensures.lines in
    let leads = leads_step _ _ _ (alone (marked form view values opened line ∷ [])) (alone (marked_lines form view octets (values_behind line values) (open_told form line) (left t))) _ _
    (ap (λ ls. alone (marked_lines form view octets values opened ls)) step) c.loop-found.invariant written in
    λ new p. leads new
    (subst (λ vs. Prints next new (alone (marked_lines form view octets vs (open_told form line) (left t)))) (c.behind-left.ensures ∙ ap (λ n. drop n values) count)
    (subst (λ n. Prints next new (alone (marked_lines form view octets c.behind-left.result.now n (left t)))) c.report_line-opened.ensures.opened p))

pub returns : goal.returns
unfolding marked_lines
returns g c = c.loop-found.invariant _
    (subst (λ ls. Prints c.loop-found.printer c.report_end.new.printer (alone (marked_lines c.args.form c.args.view.now c.args.octets.now c.loop-found.left.now c.loop-found.opened ls)))
    (sym c.in-None.ensures.steps) c.report_end.ensures)
