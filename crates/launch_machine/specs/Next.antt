-- When a launch can be started next, of all the jobs, and from when on the next version may be adopted.
use Rattle.std.specs.Prelude.{ℕ, List, Option, ℤ, ◌≤ℤ◌}
use Rattle.std.specs.Option.{option_map}
use Rattle.zone_minutes.specs.declared.minute.Minute.{Minute}
use Rattle.paxos_base.specs.declared.rows.JobRow.{JobRow}
use Rattle.due_set.specs.Table.{Table, version_from}
use Rattle.launch_machine.specs.Clerk.{TakesStart, next_version}

-- the first instant at which a start takes effect
pub record IsNextStart (table : Table) (rows : List JobRow) (first : ℤ) : Type 0 where
  pub job : ℕ
  pub at : ℤ
  pub takes : TakesStart table rows job at first
  pub least : (other : ℕ) (day now : ℤ) → TakesStart table rows other day now → first ≤ℤ now

-- no start takes effect any more, at whatever instant
abbrev pub StartsNoMore : Table → List JobRow → Type 0
StartsNoMore table rows = (job : ℕ) (at now : ℤ) → TakesStart table rows job at now → ⊥

-- the instant of the version that comes next, before which it isn't adopted
abbrev pub next_version_from : Table → List JobRow → Option Minute
next_version_from table rows = option_map (λ version. record { 0 = version_from table version }) (next_version table rows)
