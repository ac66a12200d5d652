-- A step of a replica.
use Rattle.std.specs.Prelude.{ℕ, ◌≤◌, Bool, true, false, List, count_by, ℤ, ⊤}
use Rattle.paxos_base.specs.declared.entry.Kind.{Kind}
use Rattle.paxos_base.specs.declared.rows.JobRow.{JobRow}
use Rattle.due_set.specs.Table.{Table}
use Rattle.launch_machine.specs.Answers.{IsIntent}
use Rattle.launch_machine.specs.Clerk.{AppliesAll}
use Rattle.launch_machine.specs.declared.machine.Intent.{Intent}
use Rattle.step_spec.specs.Act.{Act}
use Rattle.step_spec.specs.Hear.{hear_all, not_yet}
use Rattle.step_spec.specs.Message.{Message, Prepare, Accept, Snap}
use Rattle.step_spec.specs.Propose.{campaign, tick, answer}
use Rattle.step_spec.specs.State.{State, Identity}

-- the rows of the launch table, and what it asks for at a clock reading
pub record Plan : Type 0 where
  pub rows : List JobRow
  pub intent : Intent

-- what a replica is told, and what its launch table says to that
pub data Event : Type 0 where
  Campaign : Event
  Tick : (now : ℤ) → (plan : Plan) → Event
  Hear : (from : ℕ) → (messages : List Message) → Event
  Answer : (job : ℕ) → (at : ℤ) → (kind : Kind) → (rows : List JobRow) → Event

-- the rows are the launch table after the entries that the replica has learned
abbrev pub IsLaunchTable : Table → State → List JobRow → Type 0
IsLaunchTable table state rows = AppliesAll table state.kept.rows state.learned rows

-- the launch table says that, of this table of jobs
abbrev pub IsPlanned : Table → State → Event → Type 0
IsPlanned table state Campaign = ⊤
IsPlanned table state (Tick now plan) = IsLaunchTable table state plan.rows × IsIntent table plan.rows now plan.intent
IsPlanned table state (Hear from messages) = ⊤
IsPlanned table state (Answer job at kind rows) = IsLaunchTable table state rows

-- what the replica does then
unfoldable pub step : Identity → Event → State → List Act
step self Campaign state = campaign self state
step self (Tick now plan) state = tick self now plan.rows plan.intent state
step self (Hear from messages) state = hear_all self from messages not_yet state
step self (Answer job at kind rows) state = answer self job at kind rows state

-- one of the messages that ask for a change of what is kept, of which a letter has at most one
abbrev pub asks_change : Message → Bool
asks_change (Prepare ballot slot) = true
asks_change (Accept vote) = true
asks_change (Snap slot rows) = true
asks_change message = false

-- a letter has at most one of them
abbrev pub AsksOnce : Event → Type 0
AsksOnce Campaign = ⊤
AsksOnce (Tick now plan) = ⊤
AsksOnce (Hear from messages) = count_by asks_change messages ≤ 1
AsksOnce (Answer job at kind rows) = ⊤
