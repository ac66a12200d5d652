-- What comes of a task on a disk that may be armed, by the next line of a text. Private functions alone cite it.
use Rattle.std.specs.Prelude.{◌≡◌, ⊤, ℕ, ◌<◌, Bool, not, List, reverse, Option, None, Some, slice_get}
use Rattle.std.specs.List.{filter}
use Rattle.due_set.specs.Table.{Table}
use Rattle.history.specs.Book.{Row}
use Rattle.history.specs.declared.turn.Turn.{Turn}
use Rattle.script_semantics.specs.Arms.{IsTurnByArm, is_task_of, tasks_left}
use Rattle.paxos_base.specs.declared.durable.Delta.{Delta}
use Rattle.save_calls.specs.Save.{calls_of_delta, is_kept}
use Rattle.script_semantics.specs.Situation.{Armed, Situation, Task}
use Rattle.run_replay.specs.Replay.{IsReplayAt, IsSettingOf}
use Rattle.run_replay.specs.Tasks.{tasks_in}
use Rattle.run_replay.specs.declared.replay.Replay.{Replay}
use Rattle.run_replay.specs.declared.replay.Setting.{Setting}
use Rattle.run_replay.specs.declared.tasks.Task.{Task as Listed}
use Rattle.run_audit.specs.Coming.{StopsNext, TakesNext}
use Rattle.run_audit.specs.declared.lines.Rest.{Rest}
use Rattle.run_audit.specs.declared.verdict.Stop.{Stop}
use Rattle.run_audit.specs.declared.verdict.Stop.TheVariants.{At, OutOfMemory}

-- what is set for the replicas is what the situation has
abbrev pub AreSet : Situation → List Setting → Type 0
AreSet situation settings = (who : ℕ) (setting : Setting) → slice_get settings who ≡ Some setting → IsSettingOf situation who setting

-- a disk that is armed so stops within the save of a change, which is kept or lost
pub record StopsBy (arm : Option Armed) (bases : ℕ) (change : Option Delta) (kept : Bool) : Type 0 where
  pub armed : Armed
  pub is_armed : arm ≡ Some armed
  pub delta : Delta
  pub change_is : change ≡ Some delta
  pub few : armed.left < calls_of_delta delta
  pub keeps : kept ≡ is_kept bases delta armed.left armed.image

-- what is left of tasks where this replica, if any, has stopped within its step
abbrev pub tasks_without : (stopped : Option ℕ) → List Task → List Task
tasks_without None tasks = tasks
tasks_without (Some who) tasks = filter (λ task. not (is_task_of who task)) tasks

-- the tasks of a list in the opposite order
abbrev pub tasks_backwards : List Listed → List Task
tasks_backwards tasks = tasks_in (reverse tasks)

-- this replica, if any, stopped within its step in the turn
abbrev pub HasStoppedWithin : (stopped : Option ℕ) → Turn → Type 0
HasStoppedWithin stopped turn = (tasks : List Task) → tasks_left turn tasks ≡ tasks_without stopped tasks

-- the row is the turn of a task, and this replica, if any, stopped within it
pub record IsTurnEnding (members : ℕ) (situation : Situation) (task : Task) (stopped : Option ℕ) (row : Row) : Type 0 where
  pub turn : IsTurnByArm members situation task row
  pub ends : HasStoppedWithin stopped row.turn

-- the next turn is that of a task
abbrev pub TakesByArm : Table → Task → (old new : Replay) → (text rest : Rest) → (stopped : Option ℕ) → Type 0
TakesByArm table task old new text rest stopped =
    (rows : List Row) (situation : Situation) → IsReplayAt table rows old situation
    → TakesNext old.book.members table rows situation (IsTurnEnding old.book.members situation task stopped) new text rest

-- it isn't, or memory was wanting
abbrev pub StopsByArm : Table → Task → Replay → Rest → Stop → Type 0
StopsByArm table task old text (At line why) =
    (rows : List Row) (situation : Situation) → IsReplayAt table rows old situation
    → StopsNext old.book.members table rows (IsTurnByArm old.book.members situation task) text line why
StopsByArm table task old text OutOfMemory = ⊤
