-- One of some replicas, with what is on its disk, beside the book of their turns. Private functions alone cite it.
use Rattle.std.specs.Prelude.{◌≡◌, ℕ, ◌<◌, ◌≤◌, false, List, [], ◌∷◌, ◌++◌, Option, None, Some}
use Rattle.std.specs.Option.{option_to_list}
use Rattle.due_set.specs.Table.{Table}
use Rattle.launch_machine.specs.Clerk.{first_rows}
use Rattle.paxos_base.specs.declared.durable.Durable.{Durable}
use Rattle.cluster_sched.specs.declared.row.SchedRow.{SchedRow}
use Rattle.step_spec.specs.State.{started}
use Rattle.agreement.specs.Transition.{identity_of}
use Rattle.agreement.specs.World.{fresh}
use Rattle.history.specs.Book.{Row, Standing, durable_after, turn_of}
use Rattle.history.specs.declared.turn.Cause.{Cause}
use Rattle.replica_core.specs.Replica.{ReplicaState}
use Rattle.replica_core.specs.Step.{IsInputInside, IsOfTable, Steps}
use Rattle.replica_core.specs.declared.input.Input.{Input}
use Rattle.replica_core.specs.declared.out.StepOut.{StepOut}
use Rattle.world_law.specs.Book.{BookState, StandsBehind, standing_behind}
use Rattle.world_law.specs.Replicas.{IsInputOf, StandsAt}

-- one of so many replicas: the replica, while it runs; what is on its disk; and the answer that waits for it
pub record SeatState : Type 0 where
  pub members : ℕ
  pub running : Option ReplicaState
  pub durable : Durable
  pub waits : Option SchedRow

-- a replica of so many has started with what is on its disk, and has done nothing since
pub record IsStarted (table : Table) (who members : ℕ) (durable : Durable) (replica : ReplicaState) : Type 0 where
  pub member : who < members
  pub few : members ≤ 7
  pub identity : replica.identity ≡ identity_of members who
  pub state : replica.state ≡ started who durable
  pub of_table : IsOfTable table replica

-- it has started for the first time
pub record IsNew (table : Table) (who members : ℕ) (seat : SeatState) : Type 0 where
  pub replica : ReplicaState
  pub running : seat.running ≡ Some replica
  pub started : IsStarted table who members seat.durable replica
  pub durable : seat.durable ≡ fresh (first_rows table)
  pub waits : seat.waits ≡ None
  pub of : seat.members ≡ members

-- a replica took a step at an input, and what changed on its disk was stored
pub record StepsSeat (table : Table) (input : Input) (old new : SeatState) (out : StepOut) : Type 0 where
  pub before : ReplicaState
  pub after : ReplicaState
  pub was : old.running ≡ Some before
  pub is : new.running ≡ Some after
  pub steps : Steps table input before after out
  pub durable : new.durable ≡ durable_after (option_to_list out.delta) old.durable
  pub members : new.members ≡ old.members

-- the replica runs where these rows leave it
pub record RunsThere (table : Table) (rows : List Row) (book : BookState) (who : ℕ) (replica : ReplicaState) : Type 0 where
  pub me : replica.identity.me ≡ who
  pub stands : StandsAt table rows book replica

-- it is stopped there, and begins with what is on its disk when it starts again
pub record IsDown (standing : Standing) (who : ℕ) (durable : Durable) : Type 0 where
  pub runs : standing.runs who ≡ false
  pub state : standing.replicas who ≡ started who durable

-- a replica that runs is where these rows leave it, and one that doesn't is stopped there
abbrev pub IsWhereLeft : Table → List Row → BookState → ℕ → Durable → Option ReplicaState → Type 0
IsWhereLeft table rows book who durable (Some replica) = RunsThere table rows book who replica
IsWhereLeft table rows book who durable None = IsDown (standing_behind table rows book) who durable

-- The replica is as these rows leave it, what it keeps is on its disk, and the answer that waits for it is the one that it has.
pub record IsSeated (table : Table) (rows : List Row) (book : BookState) (who : ℕ) (seat : SeatState) : Type 0 where
  pub member : who < book.members
  pub members : seat.members ≡ book.members
  pub kept : ((standing_behind table rows book).replicas who).kept ≡ seat.durable
  pub waits : (standing_behind table rows book).waits who ≡ seat.waits
  pub left : IsWhereLeft table rows book who seat.durable seat.running

-- these rows stand behind a book of at most seven replicas, in which no call is pending
pub record IsBookAtRest (table : Table) (rows : List Row) (book : BookState) : Type 0 where
  pub behind : StandsBehind table rows book
  pub few : book.members ≤ 7
  pub rest : book.pending ≡ None

-- legal rows stand behind the book, and the replica is as they leave it
pub record IsInBook (table : Table) (book : BookState) (who : ℕ) (seat : SeatState) : Type 0 where
  pub rows : List Row
  pub rests : IsBookAtRest table rows book
  pub seated : IsSeated table rows book who seat

-- the replica took a step at what the book has for the cause
pub record HasTakenStep (table : Table) (book : BookState) (who : ℕ) (cause : Cause) (old new : SeatState) (out : StepOut) : Type 0 where
  pub input : Input
  pub told : (standing : Standing) → standing.waits who ≡ old.waits → IsInputOf standing book who cause input
  pub inside : IsInputInside table input
  pub steps : StepsSeat table input old new out

-- one row more stands behind the book, that of a turn of this replica, which is as the rows leave it from then on
pub record GoesOnByTurn (table : Table) (rows : List Row) (old new : BookState) (who : ℕ) (seat : SeatState) : Type 0 where
  pub row : Row
  pub whose : turn_of row.turn ≡ Some who
  pub rests : IsBookAtRest table (rows ++ row ∷ []) new
  pub members : new.members ≡ old.members
  pub seated : IsSeated table (rows ++ row ∷ []) new who seat

-- nothing comes of a turn
pub record IsNothing (out : StepOut) : Type 0 where
  pub delta : out.delta ≡ None
  pub letters : out.letters ≡ []
  pub learnt : out.learnt ≡ []
