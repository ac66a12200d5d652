-- Turns of replicas whose disks may be armed: which of them stops within its save, and whether its change is kept.
use Rattle.std.specs.Prelude.{◌≡◌, ◌⊎◌, ⊤, ℕ, zero, suc, ℤ, if◌then◌else◌, ◌==◌, ◌<◌, ◌≤◌, not, Bool, false, List, [], ◌∷◌, length, Option, None, Some}
use Rattle.std.specs.List.{filter}
use Rattle.paxos_base.specs.declared.durable.Delta.{Delta}
use Rattle.save_calls.specs.Save.{calls_of_delta, is_kept}
use Rattle.zone_minutes.specs.declared.minute.Window.{Window}
use Rattle.history.specs.Book.{Row, with_fact}
use Rattle.history.specs.declared.turn.Cause.{Cause}
use Rattle.history.specs.declared.turn.Turn.{Turn}
use Rattle.history.specs.declared.turn.Turn.TheVariants.{Stopped}
use Rattle.script_semantics.specs.Parts.{Stays, Then}
use Rattle.script_semantics.specs.Round.{round_tasks}
use Rattle.script_semantics.specs.Situation.{Armed, Does, IsTurnFor, Situation, Task, Arrive, Do, Restart, Stop, after_turn, after_turns, calls_for, changes_in, delivered}

-- ---- the turn of a task

-- the disk is not armed, or has calls enough left for the save
abbrev pub IsEnough : Option Armed → List Delta → Type 0
IsEnough None changes = ⊤
IsEnough (Some armed) changes = calls_for changes ≤ armed.left

-- the replica takes its step for the cause, and its disk saves the change of it
pub record TakesStep (members : ℕ) (situation : Situation) (who : ℕ) (cause : Cause) (row : Row) : Type 0 where
  pub does : Does situation.fates who cause row.turn
  pub saved : IsEnough (situation.arms who) (changes_in members situation.standing row.turn row.event)

-- The replica stops within the step for the cause: the disk is armed and has too few calls left for the save of the step's change,
-- and the numbers say whether the change is kept.
pub record StopsInStep (members : ℕ) (situation : Situation) (who : ℕ) (cause : Cause) (row : Row) : Type 0 where
  pub armed : Armed
  pub is_armed : situation.arms who ≡ Some armed
  pub change : Delta
  pub is : row.turn ≡ Stopped who (Some cause) (is_kept (situation.bases who) change armed.left armed.image)
  pub changes : changes_in members situation.standing row.turn row.event ≡ change ∷ []
  pub few : armed.left < calls_of_delta change

-- the turn is that of the task, on the replica's disk
abbrev pub IsTurnByArm : ℕ → Situation → Task → Row → Type 0
IsTurnByArm members situation (Do who cause) row = TakesStep members situation who cause row ⊎ StopsInStep members situation who cause row
IsTurnByArm members situation task row = IsTurnFor situation.fates task row.turn

-- ---- the turns of tasks

-- the task is the replica's
abbrev pub is_task_of : ℕ → Task → Bool
is_task_of who (Do other cause) = other == who
is_task_of who (Stop other) = other == who
is_task_of who (Restart other) = other == who
is_task_of who (Arrive late) = false

-- a replica that stops within a step has no turn for what it was to do after that
abbrev pub tasks_left : Turn → List Task → List Task
tasks_left (Stopped who (Some cause) kept) tasks = filter (λ task. not (is_task_of who task)) tasks
tasks_left turn tasks = tasks

-- the rows are the turns of the tasks, one after another, but for those of a replica that has stopped within one
abbrev pub AreTurnsByArms : ℕ → Situation → List Task → List Row → Type 0
AreTurnsByArms members situation tasks [] = tasks ≡ []
AreTurnsByArms members situation [] (row ∷ rows) = [] ≡ row ∷ rows
AreTurnsByArms members situation (task ∷ tasks) (row ∷ rows) =
    IsTurnByArm members situation task row × AreTurnsByArms members (after_turn members situation row) (tasks_left row.turn tasks) rows

-- these turns are taken, and then their letters join the mails
pub record PerformsByArms (members : ℕ) (tasks : List Task) (situation : Situation) (rows : List Row) (after : Situation) : Type 0 where
  pub turns : AreTurnsByArms members situation tasks rows
  pub is : after ≡ delivered (length situation.standing.posted) (after_turns members situation rows)

-- the turns of the tasks that the situation asks for
abbrev pub PlaysByArms : ℕ → (Situation → List Task) → Situation → List Row → Situation → Type 0
PlaysByArms members tasks situation rows after = PerformsByArms members (tasks situation) situation rows after

-- so many rounds at an instant, in which a disk that is armed may stop
abbrev pub AreRoundsByArms : ℕ → Window → (at : ℤ) → ℕ → Situation → List Row → Situation → Type 0
AreRoundsByArms members window at zero = Stays
AreRoundsByArms members window at (suc more) =
    Then (PlaysByArms members (round_tasks members window at)) (AreRoundsByArms members window at more)

-- ---- arming

-- the disk of a replica that runs is armed anew
abbrev pub armed_by : (who pass image : ℕ) → Situation → Situation
armed_by who pass image situation =
    if situation.standing.runs who
    then record situation { arms = with_fact who (Some (record { left = pass; image = image })) situation.arms }
    else situation

-- no disk is armed
abbrev pub AreUnarmed : Situation → Type 0
AreUnarmed situation = (who : ℕ) → situation.arms who ≡ None

-- the disks that are armed are those of replicas that run
abbrev pub AreArmsOfRunning : Situation → Type 0
AreArmsOfRunning situation = (who : ℕ) → situation.standing.runs who ≡ false → situation.arms who ≡ None
