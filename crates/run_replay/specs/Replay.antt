-- A run that is played again by its journal, by the rows behind its book and the situation after them.
use Rattle.std.specs.Prelude.{◌≡◌, ◌==◌, ◌%◌, ℕ, ◌<◌, ◌≤◌, ◌≤ℤ◌, List, length, Option, None, Some, slice_get}
use Rattle.due_set.specs.Table.{IsSound, Table}
use Rattle.paxos_base.specs.declared.durable.Durable.{Durable}
use Rattle.history.specs.Book.{Row}
use Rattle.replica_core.specs.Replica.{ReplicaState}
use Rattle.script_semantics.specs.Situation.{Armed, Situation, is_cut}
use Rattle.world_law.specs.Book.{BookState, StandsBehind, standing_behind}
use Rattle.world_law.specs.Replicas.{StandsAt, StandsStopped}
use Rattle.run_replay.specs.declared.replay.Arm.{Arm}
use Rattle.run_replay.specs.declared.replay.Replay.{Replay}
use Rattle.run_replay.specs.declared.replay.Seat.{Seat}
use Rattle.run_replay.specs.declared.replay.Setting.{Setting}

-- a replica that keeps this runs where the rows leave it
pub record IsRunningAt (table : Table) (rows : List Row) (book : BookState) (who : ℕ) (kept : Durable) (replica : ReplicaState) : Type 0 where
  pub me : replica.identity.me ≡ who
  pub stands : StandsAt table rows book replica
  pub keeps : kept ≡ replica.state.kept

-- it runs there, or is stopped
abbrev pub IsThere : Table → List Row → BookState → (who : ℕ) → Durable → Option ReplicaState → Type 0
IsThere table rows book who kept None = StandsStopped table rows book who kept
IsThere table rows book who kept (Some replica) = IsRunningAt table rows book who kept replica

-- the replica of a number is where the rows leave it
abbrev pub IsSeatOf : Table → List Row → BookState → (who : ℕ) → Seat → Type 0
IsSeatOf table rows book who seat = IsThere table rows book who seat.kept seat.replica

-- how a disk is armed
abbrev pub armed_of : Option Arm → Option Armed
armed_of None = None
armed_of (Some arm) = Some (record { left = arm.left; image = arm.image })

-- what is set for a replica is what the situation has
pub record IsSettingOf (situation : Situation) (who : ℕ) (setting : Setting) : Type 0 where
  pub mail : setting.mail.items ≡ situation.mails who
  pub skew : setting.skew ≡ situation.skews who
  pub fate : setting.fate ≡ situation.fates who
  pub waits : setting.waits ≡ situation.standing.waits who
  pub arm : armed_of setting.arm ≡ situation.arms who
  pub area : setting.second_area ≡ (situation.bases who % 2 == 1)

-- each of the replicas is where the rows leave it, and has what the situation has for it
pub record AreSeatsBehind (table : Table) (rows : List Row) (situation : Situation) (replay : Replay) : Type 0 where
  pub count : length replay.seats.items ≡ replay.book.members
  pub seats : (who : ℕ) (seat : Seat) → slice_get replay.seats.items who ≡ Some seat → IsSeatOf table rows replay.book who seat
  pub set : length replay.settings.items ≡ replay.book.members
  pub settings : (who : ℕ) (setting : Setting) → slice_get replay.settings.items who ≡ Some setting → IsSettingOf situation who setting

-- **The replay is in this situation**, and behind its book, which is at rest, stand these rows.
pub record IsReplayAt (table : Table) (rows : List Row) (replay : Replay) (situation : Situation) : Type 0 where
  pub sound : IsSound table
  pub behind : StandsBehind table rows replay.book
  pub rest : replay.book.pending ≡ None
  pub some : 0 < replay.book.members
  pub few : replay.book.members ≤ 7
  pub standing : situation.standing ≡ standing_behind table rows replay.book
  pub seated : AreSeatsBehind table rows situation replay
  pub cuts : (from to : ℕ) → is_cut from to replay.cuts.items ≡ is_cut from to situation.cuts
  pub latest : replay.latest.0 ≡ situation.latest
  pub since : table.window.from.0 ≤ℤ situation.latest

-- **The replay is in some situation.**
pub record IsInSituation (table : Table) (replay : Replay) : Type 0 where
  pub rows : List Row
  pub situation : Situation
  pub is : IsReplayAt table rows replay situation
