-- A node that still runs after a step is at rest.
use Rattle.std.proofs.Common.{◌≡◌, true, false, ℕ, Result, Ok, Err, refl}
use Rattle.std.specs.Prelude.{OnOk}
use Rattle.replica_core.specs.declared.out.StepOut.{StepOut}
use Rattle.replica_node.specs.Faults.{EndsRun, IsStepRefused}
use Rattle.replica_node.specs.Node.{runs_in}
use Rattle.replica_node.specs.declared.fault.NodeFault.{NodeFault}
use Rattle.replica_node.specs.declared.fault.NodeFault.TheVariants.{Stopped, DiskFault, OutOfMemory, Damaged, Letter}
use Rattle.replica_node.specs.declared.node.Node.{Node}

pub rests_on : {D : Type 0} (AtRest : Node D → Type 0) (new : Node D) (result : Result StepOut NodeFault) → OnOk result (AtRest new) → (IsStepRefused result → AtRest new) → (EndsRun result → runs_in new ≡ false)
    → ((gate : ℕ) → result ≡ Err (Damaged gate) → ⊥) → runs_in new ≡ true → AtRest new
rests_on AtRest new (Ok out) rest refused ended sound runs = rest
rests_on AtRest new (Err Stopped) rest refused ended sound runs = absurd (cc (ended tt, runs))
rests_on AtRest new (Err DiskFault) rest refused ended sound runs = absurd (cc (ended tt, runs))
rests_on AtRest new (Err OutOfMemory) rest refused ended sound runs = refused tt
rests_on AtRest new (Err (Damaged gate)) rest refused ended sound runs = absurd (sound gate refl)
rests_on AtRest new (Err (Letter fault)) rest refused ended sound runs = refused tt
