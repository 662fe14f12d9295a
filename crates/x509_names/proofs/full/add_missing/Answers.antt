use Rattle.std.proofs.Common.{sym, ◌∙◌}
use Rattle.x509_names.proofs.Rows.{row-put, rows_left_none}
use Rattle.x509_names.specs.Registry.{registered}
use Rattle.x509_names.proofs.full.add_missing.Goals as goal

pub loop-row-preserved : goal.loop-row-preserved
loop-row-preserved c octets =
    row-put c.args.rows.now c.loop-row.row-index _ (registered c.add_one_missing.new.registry octets) (registered c.loop-row.registry octets) octets
    c.loop-row-test.true (c.in_ok-add_one_missing.ensures.is octets)
    ∙ c.loop-row.invariant octets

pub returns-clause-is : goal.returns-clause-is
returns-clause-is c octets =
    sym (rows_left_none c.args.rows.now c.loop-row.row-index (registered c.loop-row.registry octets) octets c.loop-row-test.false)
    ∙ c.loop-row.invariant octets
