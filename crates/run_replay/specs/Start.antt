-- A replay before any turn. Private functions alone cite it.
use Rattle.std.specs.Prelude.{◌≡◌, ℕ, false, [], List, pos, length, None, Some, slice_get}
use Rattle.cluster_sched.specs.declared.fate.Fate.TheVariants.{Done}
use Rattle.due_set.specs.Table.{Table}
use Rattle.launch_machine.specs.Clerk.{first_rows}
use Rattle.step_spec.specs.State.{started}
use Rattle.agreement.specs.Transition.{identity_of}
use Rattle.agreement.specs.World.{fresh}
use Rattle.replica_core.specs.Replica.{ReplicaState}
use Rattle.replica_core.specs.Step.{IsOfTable}
use Rattle.run_replay.specs.declared.replay.Seat.{Seat}
use Rattle.run_replay.specs.declared.replay.Setting.{Setting}

-- a replica of so many that has done nothing yet
pub record IsFreshReplica (table : Table) (members who : ℕ) (replica : ReplicaState) : Type 0 where
  pub identity : replica.identity ≡ identity_of members who
  pub state : replica.state ≡ started who (fresh (first_rows table))
  pub of_table : IsOfTable table replica

-- it runs
pub record IsFreshSeat (table : Table) (members who : ℕ) (seat : Seat) : Type 0 where
  pub kept : seat.kept ≡ fresh (first_rows table)
  pub replica : ReplicaState
  pub runs : seat.replica ≡ Some replica
  pub is : IsFreshReplica table members who replica

-- so many of them
pub record AreFreshSeats (table : Table) (members count : ℕ) (seats : List Seat) : Type 0 where
  pub count_is : length seats ≡ count
  pub each : (who : ℕ) (seat : Seat) → slice_get seats who ≡ Some seat → IsFreshSeat table members who seat

-- nothing waits for the replica, its clock is right, its next call is answered, its disk isn't armed, and it has kept no base
pub record IsFreshSetting (setting : Setting) : Type 0 where
  pub mail : setting.mail.items ≡ []
  pub skew : setting.skew ≡ pos 0
  pub fate : setting.fate ≡ Done
  pub waits : setting.waits ≡ None
  pub arm : setting.arm ≡ None
  pub area : setting.second_area ≡ false

-- so it is of so many of them
pub record AreFreshSettings (count : ℕ) (settings : List Setting) : Type 0 where
  pub count_is : length settings ≡ count
  pub each : (who : ℕ) (setting : Setting) → slice_get settings who ≡ Some setting → IsFreshSetting setting
