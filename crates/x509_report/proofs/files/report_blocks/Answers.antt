use Rattle.std.proofs.Common.{◌+◌, drop, sym, ap, ◌∙◌}
use Rattle.std.proofs.lemmas.List.{at_drop_more, drop_all}
use Rattle.x509_report.specs.Files.{block_told, blocks_told, task_of}
use Rattle.x509_report.specs.Told.{both}
use Rattle.x509_report.proofs.Prints.{leads_done, leads_step, leads_stop}
use Rattle.x509_report.proofs.files.report_blocks.Goals as goal

pub returns-then-has_stopped : goal.returns-then-has_stopped
returns-then-has_stopped g c = leads_stop _ _ _ _ c.if-has_stopped.ensures c.loop-index.invariant

pub loop-index-preserved : goal.loop-index-preserved
unfolding blocks_told
loop-index-preserved g c =
    let i = c.loop-index.index in
    let blocks = c.args.blocks.now in
    let block = c.index-blocks-index.result in
    let task = task_of c.args.asked.now c.args.file.now in
    let others = blocks_told task (i + 1) (drop (i + 1) blocks) in
    leads_step _ _ _ (block_told task i block) others _ _
    (at_drop_more (blocks_told task i) blocks i block c.loop-index-test.true ∙ ap (λ b. both (block_told task i b) others) (sym c.index-blocks-index.is))
    c.loop-index.invariant c.report_block.ensures

pub returns : goal.returns
unfolding blocks_told
returns g c = leads_done _ _ _ _
    (ap (blocks_told (task_of c.args.asked.now c.args.file.now) c.loop-index.index) (drop_all c.loop-index.index c.args.blocks.now c.loop-index-test.false))
    c.loop-index.invariant
