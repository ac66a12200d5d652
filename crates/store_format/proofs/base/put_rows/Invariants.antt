use Rattle.std.proofs.Common.{List, [], ◌++◌, map, take}
use Rattle.paxos_base.specs.declared.rows.JobRow.{JobRow}
use Rattle.store_format.specs.declared.body.Record.{Record}
use Rattle.store_format.specs.declared.body.Record.TheVariants.{Row}
use Rattle.store_format.specs.Written.{AddsRecords}
use Rattle.store_format.proofs.base.put_rows.Given as goal

abbrev pub invariant-loop-row : goal.invariant-loop-row
invariant-loop-row l =
    let none : List Record = [] in
    AddsRecords (none ++ map (λ (row : JobRow). Row l.slot row) (take l.row-index l.rows)) l.fn.bodies.items l.bodies.items
