use Rattle.std.proofs.Common.{sym, subst}
use Rattle.launch_machine.specs.Clerk.{table_size}
use Rattle.paxos_base.proofs.RowLemmas.{RowsStand-fresh_rows}
use Rattle.paxos_base.specs.Rows.{RowsStand}
use Rattle.paxos_base.specs.declared.durable.Durable.{Durable}
use Rattle.run_replay.proofs.start.fresh_seat.Goals as goal

pub start-requires-clause-rows : goal.start-requires-clause-rows
start-requires-clause-rows c =
    let size = table_size c.args.table.now in
    subst (λ (kept : Durable). RowsStand kept.rows size) (sym c.in_ok-first.ensures) (RowsStand-fresh_rows size)
