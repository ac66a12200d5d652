-- What a replay tells of who has nothing left to do.
use Rattle.std.specs.Prelude.{◌≡◌, ◌↔◌, ℕ, List, IsTrue, Bool, is_some, Option, None, Some, slice_get}
use Rattle.due_set.specs.Table.{Table}
use Rattle.paxos_base.specs.declared.durable.Durable.{Durable}
use Rattle.replica_core.specs.Replica.{ReplicaState}
use Rattle.history.specs.Book.{Row}
use Rattle.script_semantics.specs.Situation.{Situation}
use Rattle.step_spec.specs.State.{State, prefix_of}
use Rattle.run_replay.specs.Replay.{IsReplayAt}
use Rattle.run_replay.specs.declared.replay.Replay.{Replay}
use Rattle.run_replay.specs.declared.replay.Seat.{Seat}

-- whether the replica runs
abbrev pub runs_by_seat : Seat → Bool
runs_by_seat seat = is_some seat.replica

-- the first slot that a replica has not learned that keeps this; one that is stopped has learned what stands in its rows
abbrev pub prefix_by : Durable → Option ReplicaState → ℕ
prefix_by kept None = kept.base
prefix_by kept (Some replica) = prefix_of replica.state

abbrev pub prefix_in : Seat → ℕ
prefix_in seat = prefix_by seat.kept seat.replica

-- the replicas have learned as much as these
abbrev pub HaveLearnedAs : (ℕ → State) → List Seat → Type 0
HaveLearnedAs replicas seats = (who : ℕ) (seat : Seat) → slice_get seats who ≡ Some seat → prefix_of (replicas who) ≡ prefix_in seat

-- **The answer is true just where this holds of the situation**, whichever the replay is in.
abbrev pub SaysWhether : Table → (holds : Situation → Type 0) → Replay → Bool → Type 0
SaysWhether table holds replay answer =
    (rows : List Row) (situation : Situation) → IsReplayAt table rows replay situation → IsTrue answer ↔ holds situation
