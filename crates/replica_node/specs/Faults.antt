-- The answers of a node by those of what it stands on.
use Rattle.std.specs.Prelude.{◌≡◌, ◌↔◌, ⊤, ℕ, Option, None, Some, Result, Ok, Err}
use Rattle.disk_model.specs.Faults.{CountsAnswer}
use Rattle.disk_model.specs.declared.fault.DiskFault.{DiskFault as DiskAnswer}
use Rattle.disk_model.specs.View.{DiskView}
use Rattle.paxos_letter.specs.declared.fault.LetterFault.{LetterFault}
use Rattle.replica_core.specs.declared.input.StepFault.{StepFault}
use Rattle.replica_core.specs.declared.input.StepFault.TheVariants as Step
use Rattle.replica_store.specs.Faults as stored
use Rattle.replica_store.specs.declared.fault.StoreFault.{StoreFault}
use Rattle.replica_store.specs.declared.fault.StoreFault.TheVariants as Store
use Rattle.replica_node.specs.declared.fault.NodeFault.{NodeFault}
use Rattle.replica_node.specs.declared.fault.NodeFault.TheVariants.{Stopped, DiskFault, OutOfMemory, Damaged, Letter}

-- the answer of a node to a fault of its store
abbrev pub of_store : StoreFault → NodeFault
of_store Store.Stopped = Stopped
of_store Store.DiskFault = DiskFault
of_store Store.OutOfMemory = OutOfMemory
of_store (Store.Damaged gate) = Damaged gate

-- the answer of a node to a fault of its disk
abbrev pub of_disk_answer : DiskAnswer → NodeFault
of_disk_answer fault = of_store (stored.of_disk fault)

-- the answer of a node to a fault of its replica's step: the bytes are no letter, or memory ran out
abbrev pub of_step : StepFault → NodeFault
of_step (Step.Letter letter) = Letter letter
of_step Step.OutOfMemory = OutOfMemory

-- the rule that an answer says a letter breaks, where it says so
abbrev pub letter_told : {T : Type 0} → Result T NodeFault → Option LetterFault
letter_told (Ok answer) = None
letter_told (Err Stopped) = None
letter_told (Err DiskFault) = None
letter_told (Err OutOfMemory) = None
letter_told (Err (Damaged gate)) = None
letter_told (Err (Letter letter)) = Some letter

-- the disk stopped or failed, so that the node doesn't run any more
abbrev pub EndsRun : {T : Type 0} → Result T NodeFault → Type 0
EndsRun (Ok answer) = ⊥
EndsRun (Err Stopped) = ⊤
EndsRun (Err DiskFault) = ⊤
EndsRun (Err OutOfMemory) = ⊥
EndsRun (Err (Damaged gate)) = ⊥
EndsRun (Err (Letter letter)) = ⊥

-- the step was refused: memory ran out, or the bytes are no letter
abbrev pub IsStepRefused : {T : Type 0} → Result T NodeFault → Type 0
IsStepRefused (Ok answer) = ⊥
IsStepRefused (Err Stopped) = ⊥
IsStepRefused (Err DiskFault) = ⊥
IsStepRefused (Err OutOfMemory) = ⊤
IsStepRefused (Err (Damaged gate)) = ⊥
IsStepRefused (Err (Letter letter)) = ⊤

-- What each call of a node says of its disk whatever it answers: it is as honest as it was, and its counts rose where the
-- answer tells of it, and nowhere else.
pub record HasNodeAnswer {D T : Type 0} (view : DiskView D) (old new : D) (result : Result T NodeFault) : Type 0 where
  pub honest_still : view.honest new ↔ view.honest old
  pub counted : CountsAnswer Stopped DiskFault OutOfMemory (view.counts old) (view.counts new) result
  pub damaged : (gate : ℕ) → result ≡ Err (Damaged gate) → view.counts new ≡ view.counts old
  pub letter : (fault : LetterFault) → result ≡ Err (Letter fault) → view.counts new ≡ view.counts old
