-- What a machine answers.
use Rattle.std.specs.Prelude.{◌≡◌, ◌↔◌, ℕ, List, ℤ}
use Rattle.jiff.specs.Types.{TimeZone}
use Rattle.paxos_base.specs.declared.entry.Entry.{Entry}
use Rattle.paxos_base.specs.declared.entry.Entry.TheVariants as entry
use Rattle.paxos_base.specs.declared.entry.Kind.{Kind}
use Rattle.paxos_base.specs.declared.entry.Kind.TheVariants.{Launch}
use Rattle.paxos_base.specs.declared.rows.JobRow.{JobRow}
use Rattle.due_set.specs.Table.{Table, Job, IsJobIn}
use Rattle.due_set.specs.Calls.{IsOnTime}
use Rattle.launch_machine.specs.Clerk.{TakesStart, TakesEnd, TakesTable, TakesEffect, in_force, NoStart, NoTable}
use Rattle.launch_machine.specs.Intent.{IsFirstCall, IsFirstStart, NoCall}
use Rattle.launch_machine.specs.declared.machine.Effect.{Effect}
use Rattle.launch_machine.specs.declared.machine.Effect.TheVariants.{Opened, Closed, Adopted, Ignored}
use Rattle.launch_machine.specs.declared.machine.Intent.{Intent}
use Rattle.launch_machine.specs.declared.machine.Intent.TheVariants.{Call, Start, Adopt, Rest}

-- a start that takes effect opens, an end closes, a version is adopted, and what takes no effect is ignored
abbrev pub IsEffect : Table → List JobRow → Entry → Effect → Type 0
IsEffect table rows (entry.Start job at now) Opened = TakesStart table rows job at now
IsEffect table rows (entry.End job at kind) Closed = TakesEnd rows job at
IsEffect table rows (entry.Table version now) Adopted = TakesTable table rows version now
IsEffect table rows any Ignored = TakesEffect table rows any → ⊥
IsEffect table rows any effect = ⊥

-- by a version, a launch that is called on time is launched, and any other is void
abbrev pub IsCallKind : Table → ℕ → ℕ → ℤ → ℤ → Kind → Type 0
IsCallKind table version job at now kind =
    (spec : Job) (zone : TimeZone) → IsJobIn table version job spec zone → ((kind ≡ Launch) ↔ IsOnTime spec.kind zone table.grace at now)

-- the first call, or else the first start, or else the next version, or else nothing
abbrev pub IsIntent : Table → List JobRow → ℤ → Intent → Type 0
IsIntent table rows now (Call job at kind) = IsFirstCall table rows now job at × IsCallKind table (in_force table rows).version job at now kind
IsIntent table rows now (Start job at) = NoCall table rows now × IsFirstStart table rows now job at
IsIntent table rows now (Adopt version) = NoCall table rows now × TakesTable table rows version now
IsIntent table rows now Rest = NoCall table rows now × NoStart table rows now × NoTable table rows now
