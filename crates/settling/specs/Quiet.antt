-- What a quiet situation says of the whole log.
use Rattle.std.specs.Prelude.{◌≡◌, ℕ, ◌<◌, ◌≤◌, List, ℤ}
use Rattle.paxos_base.specs.declared.entry.Entry.{Entry}
use Rattle.due_set.specs.Table.{Table}
use Rattle.launch_machine.specs.Clerk.{first_rows}
use Rattle.step_spec.specs.State.{promised_in}
use Rattle.agreement.specs.Log.{IsLog}
use Rattle.history.specs.Book.{Row, standing_after, votes_in}
use Rattle.history.specs.Legal.{IsLegal}
use Rattle.synchronous_rounds.specs.Cluster.{Cluster}
use Rattle.script_semantics.specs.Settling.{IsQuiet}
use Rattle.script_semantics.specs.Situation.{Situation}

-- no replica has promised a higher ballot than this one
abbrev pub HasPromisedMost : (members who : ℕ) → Situation → Type 0
HasPromisedMost members who situation =
    (other : ℕ) → other < members
    → promised_in (situation.standing.replicas other).kept ≤ promised_in (situation.standing.replicas who).kept

-- A legal book comes to a situation that is quiet, in which no replica has promised a higher ballot than the one that leads; and
-- this is its log.
pub record EndsQuietly (members : ℕ) (table : Table) (book : List Row) (who : ℕ) (now : ℤ) (situation : Situation) (log : List Entry) : Type 0 where
  pub few : members ≤ 7
  pub legal : IsLegal members table book
  pub standing : situation.standing ≡ standing_after members (first_rows table) book
  pub member : who < members
  pub quiet : IsQuiet members table who now situation
  pub most : HasPromisedMost members who situation
  pub is_log : IsLog members (votes_in book) log

-- the replicas of a situation are these between two rounds, and so are the answers that wait for them
pub record IsSituationOf (cluster : Cluster) (situation : Situation) : Type 0 where
  pub replicas : (who : ℕ) → situation.standing.replicas who ≡ cluster.replicas who
  pub waits : (who : ℕ) → situation.standing.waits who ≡ cluster.waits who
