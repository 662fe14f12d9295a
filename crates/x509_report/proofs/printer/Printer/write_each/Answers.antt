use Rattle.std.proofs.Common.{◌+◌, ◌∷◌, [], drop, map, sym, ap, ◌∙◌}
use Rattle.std.proofs.lemmas.List.{at_drop_more, drop_all}
use Rattle.x509_report.specs.Told.{alone}
use Rattle.x509_report.proofs.Prints.{leads_done, leads_step}
use Rattle.x509_report.proofs.printer.Printer.write_each.Goals as goal

pub loop-piece-preserved : goal.loop-piece-preserved
loop-piece-preserved g c =
    let i = c.loop-piece.piece-index in
    let pieces = c.args.pieces.now in
    let piece = c.as_bytes.result.now in
    let others = map (λ piece. piece.now) (drop (i + 1) pieces) in
    leads_step _ _ _ (alone (piece ∷ [])) (alone others) _ _
    (at_drop_more (λ ps. alone (map (λ piece. piece.now) ps)) pieces i (record { ref_ptr = (0, 0); now = [] }) c.loop-piece-test.true
    ∙ ap (λ first. alone (first ∷ others)) (sym c.as_bytes.ensures.value))
    c.loop-piece.invariant c.write.ensures

pub returns : goal.returns
returns g c = leads_done _ _ _ _
    (ap (λ ps. alone (map (λ piece. piece.now) ps)) (drop_all c.loop-piece.piece-index c.args.pieces.now c.loop-piece-test.false))
    c.loop-piece.invariant
