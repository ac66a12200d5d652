-- A replica with the table of jobs that it is one of, and the book of its turns.
use Rattle.std.specs.Prelude.{◌≡◌, true, List, None}
use Rattle.due_set.specs.Table.{Table}
use Rattle.history.specs.Book.{Row}
use Rattle.replica_core.specs.Replica.{ReplicaState}
use Rattle.replica_core.specs.Step.{IsOfTable}
use Rattle.world_law.specs.Book.{BookState, StandsBehind, standing_behind}

-- a replica, its table of jobs, and its book
pub record BookedState : Type 0 where
  pub table : Table
  pub replica : ReplicaState
  pub book : BookState

-- The replica is as its book says. Some rows stand behind the book, which is one of two replicas, and no call is pending. The
-- replica is the first of the two and one of the table of jobs, and after those rows it stands in its state, and runs.
pub record IsAsBooked (booked : BookedState) : Type 0 where
  pub rows : List Row
  pub behind : StandsBehind booked.table rows booked.book
  pub members : booked.book.members ≡ 2
  pub pending : booked.book.pending ≡ None
  pub identity : booked.replica.identity ≡ record { me = 0; members = 2 }
  pub of_table : IsOfTable booked.table booked.replica
  pub state : (standing_behind booked.table rows booked.book).replicas 0 ≡ booked.replica.state
  pub runs : (standing_behind booked.table rows booked.book).runs 0 ≡ true
