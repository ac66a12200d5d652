-- What two steps have in common.
use Rattle.std.specs.Prelude.{◌≡◌}
use Rattle.replica_core.specs.Replica.{ReplicaState}
use Rattle.replica_core.specs.declared.out.StepOut.{StepOut}

-- Two steps come to the same: the replica is the same after both, but for the room that it has, and so are the change on the disk, the
-- letters, the learned entries and the call.
pub record IsSameOutcome (one other : ReplicaState) (first second : StepOut) : Type 0 where
  pub identity : one.identity ≡ other.identity
  pub state : one.state ≡ other.state
  pub rows : one.machine.rows ≡ other.machine.rows
  pub delta : first.delta ≡ second.delta
  pub letters : first.letters ≡ second.letters
  pub learnt : first.learnt ≡ second.learnt
  pub call : first.call ≡ second.call
