use Rattle.std.proofs.Common.{[]}
use Rattle.paxos_base.specs.declared.rows.JobRow.{JobRow}
use Rattle.paxos_base.specs.Rows.{fresh_row}
use Rattle.store_format.specs.declared.body.Record.TheVariants.{Row}
use Rattle.store_format.proofs.WriteLemmas.{AddsRecords-more_at}
use Rattle.store_format.proofs.base.put_rows.Goals as goal

pub loop-row-preserved : goal.loop-row-preserved
loop-row-preserved c =
    AddsRecords-more_at (λ (row : JobRow). Row c.args.slot row) [] c.args.rows.now c.loop-row.row-index (fresh_row 0) c.args.bodies.now.items c.loop-row.bodies.items c.put.new.bodies.items c.loop-row-test.true c.loop-row.invariant c.in_ok-put.ensures
