-- When a log has nothing left to do.
use Rattle.std.specs.Prelude.{List, ℤ}
use Rattle.paxos_base.specs.declared.entry.Entry.{Entry}
use Rattle.paxos_base.specs.declared.rows.JobRow.{JobRow}
use Rattle.due_set.specs.Table.{Table}
use Rattle.launch_machine.specs.Clerk.{IsClerkOf, NoStart, NoTable}
use Rattle.launch_machine.specs.Intent.{NoCall}

-- at the instant no launch that is open may be called, no start would take effect, and no version be adopted
pub record IsSettled (table : Table) (log : List Entry) (now : ℤ) : Type 0 where
  pub rows : List JobRow
  pub clerk : IsClerkOf table log rows
  pub no_call : NoCall table rows now
  pub no_start : NoStart table rows now
  pub no_table : NoTable table rows now
