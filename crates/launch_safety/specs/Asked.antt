-- The turns in which launches are asked for, and what their clocks read.
use Rattle.std.specs.Prelude.{◌≡◌, ℕ, List, ◌∷◌, ◌++◌, Some, ℤ}
use Rattle.paxos_base.specs.declared.rows.JobRow.{JobRow}
use Rattle.due_set.specs.Table.{Table}
use Rattle.launch_machine.specs.Answers.{IsIntent}
use Rattle.launch_machine.specs.Clerk.{first_rows}
use Rattle.launch_machine.specs.declared.machine.Intent.{Intent}
use Rattle.step_spec.specs.State.{State, prefix_of}
use Rattle.step_spec.specs.Step.{IsLaunchTable}
use Rattle.history.specs.Book.{Row, standing_after, turn_of}
use Rattle.history.specs.declared.turn.Cause.{Cause}
use Rattle.history.specs.declared.turn.Cause.TheVariants.{Tick}
use Rattle.history.specs.declared.turn.Turn.{Turn}
use Rattle.history.specs.declared.turn.Turn.TheVariants.{Did, Stopped}

-- a clock ticks, and reads the instant
abbrev pub TicksAt : (now : ℤ) → Cause → Type 0
TicksAt now (Tick minute) = minute.0 ≡ now
TicksAt now cause = ⊥

-- the clock of the turn reads the instant, also where the replica stopped within it
abbrev pub ReadsAt : (now : ℤ) → Turn → Type 0
ReadsAt now (Did who cause made) = TicksAt now cause
ReadsAt now (Stopped who (Some cause) kept) = TicksAt now cause
ReadsAt now turn = ⊥

-- the state of a replica after these rows, before the turn that comes next
abbrev pub state_before : ℕ → Table → List Row → (who : ℕ) → State
state_before members table front who = (standing_after members (first_rows table) front).replicas who

-- In a turn of the book the clock read the instant, and the launch table of the replica whose turn it was, and which had learned all
-- below the slot, asked for this then.
pub record IsAskedAt (members : ℕ) (table : Table) (book : List Row) (slot : ℕ) (now : ℤ) (intent : Intent) : Type 0 where
  pub front : List Row
  pub row : Row
  pub back : List Row
  pub parts : book ≡ front ++ row ∷ back
  pub who : ℕ
  pub turn_is : turn_of row.turn ≡ Some who
  pub reads : ReadsAt now row.turn
  pub learned : prefix_of (state_before members table front who) ≡ slot
  pub launch : List JobRow
  pub launch_is : IsLaunchTable table (state_before members table front who) launch
  pub asks : IsIntent table launch now intent
