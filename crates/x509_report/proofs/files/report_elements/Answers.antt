use Rattle.std.proofs.Common.{◌≡◌, ◌+◌, Bor, List, ℕ, [], length, get_or, drop, map, ap, sym, ◌∙◌, arith}
use Rattle.std.proofs.lemmas.List.{at_drop_more, drop_all, length-append}
use Rattle.std.specs.List.{flat_map}
use Rattle.x509_report.specs.Files.{element_told, elements_told, task_of}
use Rattle.x509_report.specs.Told.{Told, both}
use Rattle.x509_report.proofs.Prints.{leads_done, leads_step, leads_stop}
use Rattle.x509_report.proofs.files.report_elements.Goals as goal

abbrev nowhere : Bor (List ℕ)
nowhere = record { ref_ptr = (0, 0); now = [] }

pub returns-then-has_stopped : goal.returns-then-has_stopped
returns-then-has_stopped g c = leads_stop _ _ _ _ c.if-has_stopped.ensures c.loop-index.invariant.leads

pub loop-index-preserved : goal.loop-index-preserved
unfolding elements_told
loop-index-preserved g c =
    let i = c.loop-index.index in
    let elements = c.args.elements.now in
    let task = task_of c.args.asked.now c.args.file.now in
    let element = (get_or elements i nowhere).now in
    let rest = map (λ e. e.now) (drop (i + 1) elements) in
    let size : length (flat_map (λ e. e.now) (drop i elements)) ≡ length element + length (flat_map (λ e. e.now) (drop (i + 1) elements)) =
    at_drop_more (λ es. length (flat_map (λ e. e.now) es)) elements i nowhere c.loop-index-test.true ∙ length-append element (flat_map (λ e. e.now) (drop (i + 1) elements)) in
    let next : c.saturating_add-offset.result ≡ c.loop-index.offset + length element = omega (arith, size, c.loop-index.invariant.size, c.requires, c.saturating_add-offset.ensures) in
    let first : Told = element_told task i c.loop-index.offset element in
    record {
      leads = leads_step _ _ _ first (elements_told task (i + 1) c.saturating_add-offset.result rest) _ _
          (at_drop_more (λ es. elements_told task i c.loop-index.offset (map (λ e. e.now) es)) elements i nowhere c.loop-index-test.true
          ∙ ap (λ o. both first (elements_told task (i + 1) o rest)) (sym next))
          c.loop-index.invariant.leads c.report_object.ensures;
      size = omega (arith, next, size, c.loop-index.invariant.size);
    }

pub returns : goal.returns
unfolding elements_told
returns g c = leads_done _ _ _ _
    (ap (λ es. elements_told (task_of c.args.asked.now c.args.file.now) c.loop-index.index c.loop-index.offset (map (λ e. e.now) es))
    (drop_all c.loop-index.index c.args.elements.now c.loop-index-test.false))
    c.loop-index.invariant.leads
