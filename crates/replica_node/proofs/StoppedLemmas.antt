-- A node that was stopped within the save of a step's change.
use Rattle.std.proofs.Common.{◌≡◌, true, Option, None, Some, List, [], ◌∷◌, Result, refl, ap, ◌∙◌, inl, inr}
use Rattle.std.specs.Option.{option_to_list}
use Rattle.std.specs.Prelude.{IsErrOf, IsSome, false}
use Rattle.launch_machine.specs.Clerk.{table_size}
use Rattle.disk_model.specs.declared.fault.DiskFault.TheVariants as Disk
use Rattle.disk_model.specs.Made.{DiskCall, StopsCalls, MadeCalls}
use Rattle.disk_model.specs.Told.{TellsStop, TellsThen, Told}
use Rattle.disk_model.specs.View.{DiskView}
use Rattle.due_set.specs.Table.{Table}
use Rattle.paxos_base.specs.declared.durable.Delta.{Delta}
use Rattle.store_format.specs.Order.{ChangeMayFollow}
use Rattle.durable_changes.specs.Anew.{ProposesAnew}
use Rattle.durable_changes.proofs.Altering.{Alters}
use Rattle.step_spec.specs.Folds.{deltas_of}
use Rattle.step_spec.specs.Step.{step}
use Rattle.replica_core.specs.Commit.{kept_after}
use Rattle.replica_core.specs.Replica.{IsSmall, ReplicaState}
use Rattle.replica_core.specs.Step.{CanTake, IsSameReplica, IsOfTable, PlansStep}
use Rattle.replica_core.specs.declared.input.Input.{Input}
use Rattle.replica_core.specs.declared.replica.Planned.{Planned}
use Rattle.replica_store.specs.Files.{IsRecoverable}
use Rattle.replica_node.specs.Faults.{of_disk_answer}
use Rattle.replica_node.specs.Node.{disk_of, replica_of, runs_in}
use Rattle.replica_node.specs.Stopped.{IsStoppedWithin, cut_short}
use Rattle.replica_node.specs.declared.fault.NodeFault.{NodeFault}
use Rattle.replica_node.specs.declared.fault.NodeFault.TheVariants as Node
use Rattle.replica_node.specs.declared.node.Node.{Node as ANode}
use Rattle.replica_node.proofs.RestLemmas.{of_table_alike}
use Rattle.replica_node.proofs.StepLemmas.{plans_alike}

-- ---- the disk tells that it has stopped

stops_there : (rest : List DiskCall) (mid new : Told) → StopsCalls Disk.Stopped rest mid new → new.stopped ≡ true
stops_there [] mid new ends = absurd ends
stops_there (call ∷ rest) mid new (inl was) = ap (λ (t : Told). t.stopped) was.1 ∙ was.0
stops_there (call ∷ rest) mid new (inr now) = ap (λ (t : Told). t.stopped) now.2

pub tells_stopped : {T : Type 0} (calls : List DiskCall) (result : Result T NodeFault) (old new : Option Told) → IsSome old → IsErrOf result Node.Stopped → TellsThen (MadeCalls of_disk_answer calls result) old new → TellsStop new
tells_stopped calls result None new some is tells = absurd (cc some)
tells_stopped calls result (Some old) None some is tells = absurd tells
tells_stopped calls result (Some old) (Some new) some is tells =
    let broken = tells.broken Disk.Stopped is in
    stops_there broken.rest broken.mid new broken.ends

-- ---- all of it

pub stopped_within : {D : Type 0} (view : DiskView D) (table : Table) (input : Input) (old : ReplicaState) (node : ANode D) (planned : Planned) (delta : Option Delta)
    → runs_in node ≡ false → cut_short node ≡ Some planned → IsSameReplica (replica_of node) old → IsOfTable table old → IsSmall old.state old.machine.rows → CanTake table (replica_of node) planned
    → (plans : PlansStep table input old planned) → deltas_of (step old.identity plans.event old.state) ≡ option_to_list delta → IsSome delta
    → ((change : Delta) → delta ≡ Some change → ChangeMayFollow (table_size table) (replica_of node).state.kept change)
    → ((change : Delta) → delta ≡ Some change → ProposesAnew (replica_of node).state → Alters (replica_of node).state.kept change) → TellsStop (view.told (disk_of node))
    → (view.honest (disk_of node) → IsRecoverable (table_size table) (replica_of node).state.kept (kept_after delta (replica_of node).state.kept) (view.may_leave (disk_of node)))
    → IsStoppedWithin view table input old node
stopped_within view table input old node planned None ended cut alike of_table small can plans changes some follows alters stopped recoverable = absurd (cc some)
stopped_within view table input old node planned (Some change) ended cut alike of_table small can plans changes some follows alters stopped recoverable =
    record {
      stop = record {
        ended = ended;
        change = change;
        planned = planned;
        is_cut_short = cut;
        has_planned = record {
          of_table = of_table_alike table old (replica_of node) alike of_table;
          small = rw (alike.state, alike.machine) small;
          can_take = can;
          acts = step old.identity plans.event old.state;
          plans = plans_alike old (replica_of node) (step old.identity plans.event old.state) planned alike plans.plans;
          changes = changes;
          follows = follows change refl;
          alters = alters change refl;
        };
        stopped = stopped;
        recoverable = recoverable;
      };
      change_of = record { event = plans.event; event_is = plans.event_is; change_is = changes };
    }
