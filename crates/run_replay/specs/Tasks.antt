-- The turns that a situation asks for, as a replay lists them.
use Rattle.std.specs.Prelude.{◌≡◌, ℕ, Bool, true, false, List, ◌++◌, map, Option, None, Some}
use Rattle.due_set.specs.Table.{Table}
use Rattle.term_core.specs.declared.term.Term.{Term}
use Rattle.term_core.specs.declared.term.Term.TheVariants.{Follower}
use Rattle.history.specs.Book.{Row}
use Rattle.replica_core.specs.Replica.{ReplicaState}
use Rattle.script_semantics.specs.Settling.{campaign_tasks}
use Rattle.script_semantics.specs.Situation.{Situation, Task, Do, Stop, Restart, Arrive}
use Rattle.run_replay.specs.Replay.{IsReplayAt}
use Rattle.run_replay.specs.declared.replay.Replay.{Replay}
use Rattle.run_replay.specs.declared.replay.Seat.{Seat}
use Rattle.run_replay.specs.declared.tasks.Task.{Task as Listed}
use Rattle.run_replay.specs.declared.tasks.Task.TheVariants as listed

-- the turn that a task of a list stands for
abbrev pub task_of : Listed → Task
task_of (listed.Do who cause) = Do who cause
task_of (listed.Stop who) = Stop who
task_of (listed.Restart who) = Restart who
task_of (listed.Arrive late) = Arrive late

abbrev pub tasks_in : List Listed → List Task
tasks_in tasks = map task_of tasks

-- **The list has the tasks that the situation asks for**, whichever the replay is in.
abbrev pub AreAsked : (asked : Situation → List Task) → Replay → List Listed → Type 0
AreAsked asked replay tasks = (table : Table) (rows : List Row) (now : Situation) → IsReplayAt table rows replay now → tasks_in tasks ≡ asked now

-- these tasks join the list
abbrev pub JoinAsked : (asked : Situation → List Task) → Replay → (old new : List Listed) → Type 0
JoinAsked asked replay old new =
    (table : Table) (rows : List Row) (now : Situation) → IsReplayAt table rows replay now → tasks_in new ≡ tasks_in old ++ asked now

-- whether a term is none
abbrev pub is_follower : Term → Bool
is_follower (Follower ended) = true
is_follower term = false

-- whether a replica follows; one that is stopped follows as it starts
abbrev pub follows_by : Option ReplicaState → Bool
follows_by None = true
follows_by (Some replica) = is_follower replica.state.term

abbrev pub follows_in : Seat → Bool
follows_in seat = follows_by seat.replica

-- what a replica does that is to lead, where it follows
abbrev pub standing_tasks : (who : ℕ) → Situation → List Task
standing_tasks who situation = campaign_tasks who (situation.standing.replicas who).term
