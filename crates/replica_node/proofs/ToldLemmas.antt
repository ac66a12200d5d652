-- Which calls of its disk a node has made.
use Rattle.std.proofs.Common.{◌≡◌, ℕ, List, Option, None, Some, Result, Ok, Err, IsErrAnd, refl, sym, ap, ◌∙◌, subst}
use Rattle.std.specs.Option.{option_to_list}
use Rattle.std.proofs.lemmas.Result.{err_from_is_err_and}
use Rattle.disk_model.specs.declared.fault.DiskFault.{DiskFault}
use Rattle.disk_model.specs.Made.{DiskCall, MadeCalls}
use Rattle.disk_model.specs.Told.{TellsThen, Told}
use Rattle.due_set.specs.Table.{Table}
use Rattle.paxos_base.specs.declared.durable.Delta.{Delta}
use Rattle.step_spec.specs.Folds.{deltas_of}
use Rattle.step_spec.specs.State.{State}
use Rattle.step_spec.specs.Step.{Event, step}
use Rattle.replica_core.specs.Replica.{ReplicaState}
use Rattle.replica_core.specs.Step.{IsSameReplica, IsEventOf}
use Rattle.replica_core.specs.declared.input.Input.{Input}
use Rattle.replica_core.proofs.OutcomeLemmas.{one_event}
use Rattle.replica_store.specs.Faults as stored
use Rattle.replica_store.specs.declared.fault.StoreFault.{StoreFault}
use Rattle.replica_node.specs.Faults.{of_disk_answer, of_store}
use Rattle.replica_node.specs.Node.{IsChangeOf, RecordsStand, disk_calls_for, replica_of, store_of}
use Rattle.replica_node.specs.declared.fault.NodeFault.{NodeFault}
use Rattle.replica_node.specs.declared.node.Node.{Node}
use Rattle.replica_node.proofs.FaultLemmas.{same_fault, stored_of}

tells_weaker : (P Q : Told → Told → Type 0) → ((old new : Told) → P old new → Q old new) → (old new : Option Told) → TellsThen P old new → TellsThen Q old new
tells_weaker P Q weaker None new tells = tt
tells_weaker P Q weaker (Some old) None tells = absurd tells
tells_weaker P Q weaker (Some old) (Some new) tells = weaker old new tells

-- ---- what a store says

made_stored : (calls : List DiskCall) (fault : StoreFault) (old new : Told) → MadeCalls {T = Unit} stored.of_disk calls (Err fault) old new → MadeCalls {T = Unit} of_disk_answer calls (Err (of_store fault)) old new
made_stored calls fault old new made =
    record {
      all = tt;
      broken = λ of is. made.broken of (ap Err (stored_of fault of (same_fault {U = Unit} (of_store fault) (of_disk_answer of) is)));
    }

pub told_stored : (calls : List DiskCall) (found fault : StoreFault) (old new : Option Told) → found ≡ fault → TellsThen (MadeCalls {T = Unit} stored.of_disk calls (Err found)) old new
    → TellsThen (MadeCalls {T = Unit} of_disk_answer calls (Err (of_store fault))) old new
told_stored calls found fault old new is tells =
    tells_weaker (MadeCalls {T = Unit} stored.of_disk calls (Err fault)) (MadeCalls {T = Unit} of_disk_answer calls (Err (of_store fault))) (made_stored calls fault) old new
    (subst (λ (f : StoreFault). TellsThen (MadeCalls {T = Unit} stored.of_disk calls (Err f)) old new) is tells)

made_done : {T U E F : Type 0} (one : DiskFault → E) (other : DiskFault → F) (calls : List DiskCall) (first : T) (second : U) (old new : Told) → MadeCalls one calls (Ok first) old new → MadeCalls other calls (Ok second) old new
made_done one other calls first second old new made =
    record {
      all = made.all;
      broken = λ of is. absurd (cc is);
    }

pub told_done : {T U E F : Type 0} (one : DiskFault → E) (other : DiskFault → F) (calls : List DiskCall) (first : T) (second : U) (old new : Option Told) → TellsThen (MadeCalls one calls (Ok first)) old new
    → TellsThen (MadeCalls other calls (Ok second)) old new
told_done one other calls first second old new tells = tells_weaker (MadeCalls one calls (Ok first)) (MadeCalls other calls (Ok second)) (made_done one other calls first second) old new tells

-- ---- a fault that is handed on

made_failed : {T U : Type 0} (calls : List DiskCall) (fault : NodeFault) (old new : Told) → MadeCalls {T = T} of_disk_answer calls (Err fault) old new → MadeCalls {T = U} of_disk_answer calls (Err fault) old new
made_failed {T} {U} calls fault old new made =
    record {
      all = tt;
      broken = λ of is. made.broken of (ap Err (same_fault {U = U} fault (of_disk_answer of) is));
    }

pub told_failed : {T U : Type 0} (calls : List DiskCall) (fault : NodeFault) (below : Result T NodeFault) (result : Result U NodeFault) → below ≡ Err fault → IsErrAnd result (λ e. e ≡ fault) → (old new : Option Told)
    → TellsThen (MadeCalls of_disk_answer calls below) old new → TellsThen (MadeCalls of_disk_answer calls result) old new
told_failed {T} {U} calls fault below result was gives old new tells =
    let found = err_from_is_err_and result gives in
    let same : result ≡ Err fault = found.1 ∙ ap Err found.2 in
    subst (λ (r : Result U NodeFault). TellsThen (MadeCalls of_disk_answer calls r) old new) (sym same)
    (tells_weaker (MadeCalls {T = T} of_disk_answer calls (Err fault)) (MadeCalls {T = U} of_disk_answer calls (Err fault)) (made_failed calls fault) old new (subst (λ (r : Result T NodeFault). TellsThen (MadeCalls of_disk_answer calls r) old new) was tells))

-- ---- the change of a step

pub one_or_none : (one other : Option Delta) → option_to_list one ≡ option_to_list other → one ≡ other
one_or_none None None is = refl
one_or_none None (Some other) is = absurd (cc is)
one_or_none (Some one) None is = absurd (cc is)
one_or_none (Some one) (Some other) is = cc is

pub one_change : (table : Table) (input : Input) (replica : ReplicaState) (event : Event) (delta change : Option Delta) → IsEventOf table replica input event → deltas_of (step replica.identity event replica.state) ≡ option_to_list delta
    → IsChangeOf table input replica change → change ≡ delta
one_change table input replica event delta change is told of =
    let same : event ≡ of.event = one_event table replica input event of.event is of.event_is in
    one_or_none change delta (sym of.change_is ∙ sym (ap (λ (e : Event). deltas_of (step replica.identity e replica.state)) same) ∙ told)

same_calls : {D : Type 0} (now old : Node D) (own : Option ℕ) (delta : Option Delta) → store_of now ≡ store_of old → (replica_of now).state.kept ≡ (replica_of old).state.kept → disk_calls_for now own delta ≡ disk_calls_for old own delta
same_calls now old own None store kept = refl
same_calls now old own (Some change) store kept = rw store (rw kept refl)

same_records : {D : Type 0} (now old : Node D) (own : Option ℕ) → store_of now ≡ store_of old → (replica_of now).state.kept ≡ (replica_of old).state.kept → RecordsStand old own → RecordsStand now own
same_records now old own store kept stand = rw store (rw kept stand)

-- what was said of a node with a replica that is alike, which has planned the step
pub told_of_step : {D T : Type 0} (table : Table) (input : Input) (old now : Node D) (event : Event) (delta : Option Delta) (result : Result T NodeFault) (before after : Option Told) → IsEventOf table (replica_of old) input event
    → deltas_of (step (replica_of old).identity event (replica_of old).state) ≡ option_to_list delta → IsSameReplica (replica_of now) (replica_of old) → store_of now ≡ store_of old
    → ((own : Option ℕ) → RecordsStand now own → TellsThen (MadeCalls of_disk_answer (disk_calls_for now own delta) result) before after) → (own : Option ℕ) (change : Option Delta) → RecordsStand old own → IsChangeOf table input (replica_of old) change
    → TellsThen (MadeCalls of_disk_answer (disk_calls_for old own change) result) before after
told_of_step table input old now event delta result before after is told alike store tells own change stand of =
    let kept : (replica_of now).state.kept ≡ (replica_of old).state.kept = ap (λ (state : State). state.kept) alike.state in
    let one : change ≡ delta = one_change table input (replica_of old) event delta change is told of in
    let calls : disk_calls_for now own delta ≡ disk_calls_for old own change = same_calls now old own delta store kept ∙ sym (ap (disk_calls_for old own) one) in
    subst (λ (c : List DiskCall). TellsThen (MadeCalls of_disk_answer c result) before after) calls (tells own (same_records now old own store kept stand))
