-- A node between two calls, and what a stop leaves within one.
use Rattle.std.proofs.Common.{◌≡◌, ℕ, ◌<◌, ◌≤◌, List, [], Option, refl, sym, ap, ◌∙◌, subst, inl, inr, arith}
use Rattle.std.specs.Option.{option_to_list}
use Rattle.launch_machine.specs.Clerk.{table_size}
use Rattle.paxos_base.specs.declared.rows.TableSize.{TableSize}
use Rattle.disk_model.specs.Images.{Image, file_of}
use Rattle.disk_model.specs.declared.fault.FileNo.{FileNo}
use Rattle.disk_model.specs.View.{DiskView, LeavesOnly}
use Rattle.due_set.specs.Table.{Table}
use Rattle.gate_file.specs.Gates.{HasBodies}
use Rattle.launch_machine.specs.Machine.{Launches, StandsFor}
use Rattle.paxos_base.specs.declared.durable.Delta.{Delta}
use Rattle.paxos_base.specs.declared.durable.Durable.{Durable}
use Rattle.step_spec.specs.Coherent.{IsCoherent}
use Rattle.step_spec.specs.Folds.{after_acts, deltas_of}
use Rattle.step_spec.specs.State.{State}
use Rattle.step_spec.specs.Step.{Event, step}
use Rattle.step_spec.proofs.Said.{stays_coherent}
use Rattle.replica_core.specs.Commit.{kept_after}
use Rattle.replica_core.specs.Replica.{ReplicaState}
use Rattle.replica_core.specs.Step.{IsSameReplica, IsEventOf, IsOfTable, PlansStep, Takes}
use Rattle.replica_core.specs.declared.input.Input.{Input}
use Rattle.replica_core.proofs.OutcomeLemmas.{one_event}
use Rattle.replica_core.specs.declared.out.StepOut.{StepOut}
use Rattle.replica_core.specs.declared.replica.Planned.{Planned}
use Rattle.replica_store.specs.Files.{FilesStand, FilesStandForEither, IsRecoverable, SelectsFormat1, selected}
use Rattle.replica_store.specs.Store.{IsInFormat2, IsStoreAtRest, StoreKeeps, size_of_store}
use Rattle.replica_store.proofs.FileLemmas.{recoverable_stands}
use Rattle.replica_store.proofs.MigrateLemmas.{not_selected, rests_in_format_2}
use Rattle.replica_store.proofs.SaveLemmas.{rests_recoverable}
use Rattle.replica_node.specs.Node.{FilesStandAround, IsNodeAtRest, IsRecoverableAround, LeadsTo, disk_of, replica_of, runs_in, store_of}
use Rattle.replica_node.specs.declared.node.Node.{Node}
use Rattle.replica_node.proofs.StepLemmas.{event_planned, kept_by_change}

-- ---- between two calls

pub few_members : (me members : ℕ) → me < members → members ≤ 7 → me < 8
few_members me members member few = omega (arith, member, few)

-- a replica can go on from the disk with what it keeps
pub recoverable_at_rest : {D : Type 0} (view : DiskView D) (table : Table) (node : Node D) → IsNodeAtRest view table node → view.honest (disk_of node)
    → IsRecoverable (table_size table) (replica_of node).state.kept (replica_of node).state.kept (view.may_leave (disk_of node))
recoverable_at_rest view table node rest is =
    let kept = (replica_of node).state.kept in
    subst (λ (size : TableSize). IsRecoverable size kept kept (view.may_leave (disk_of node))) rest.size (rests_recoverable view (disk_of node) (store_of node) rest.rests kept rest.keeps is)

-- whatever a stop leaves between two calls stands for what the replica keeps
pub stands_at_rest : {D : Type 0} (view : DiskView D) (table : Table) (node : Node D) → IsNodeAtRest view table node → view.honest (disk_of node) → (image : Image)
    → view.may_leave (disk_of node) image → FilesStand (table_size table) (replica_of node).state.kept image
stands_at_rest view table node rest is image left =
    let kept = (replica_of node).state.kept in
    elim (recoverable_stands (table_size table) kept kept (view.may_leave (disk_of node)) (recoverable_at_rest view table node rest is) image left) [ inl before ↦ before | inr after ↦ after ]

-- the area that its disk selects begins with no base of format 1
pub selects_format_2 : {D : Type 0} (view : DiskView D) (table : Table) (node : Node D) → IsNodeAtRest view table node → SelectsFormat1 (table_size table) (view.seen (disk_of node)) → ⊥
selects_format_2 view table node rest selects =
    rests_in_format_2 view (disk_of node) (store_of node) rest.rests rest.format (subst (λ (size : TableSize). SelectsFormat1 size (view.seen (disk_of node))) (sym rest.size) selects)

-- nor does that of empty files
pub empty_in_format_2 : (size : TableSize) (image : Image) → ((file : FileNo) → file_of file image ≡ []) → SelectsFormat1 size image → ⊥
empty_in_format_2 size image empty =
    let none : HasBodies [] [] = record { gates_open = λ number below. absurd (omega (arith, below)); tail = λ first. omega (arith, first.within) } in
    not_selected size image [] (subst (λ (bytes : List ℕ). HasBodies bytes []) (sym (empty (selected image))) none) (λ begins. begins)

pub of_table_alike : (table : Table) (old now : ReplicaState) → IsSameReplica now old → IsOfTable table old → IsOfTable table now
of_table_alike table old now alike of_table =
    record {
      stands = subst (λ (machine : Launches). StandsFor table machine) (sym alike.machine) of_table.stands;
      rows = rw (alike.state, alike.machine) of_table.rows;
    }

-- a node whose replica is alike, and whose store keeps the same, is at rest as it was
pub at_rest_still : {D : Type 0} (view : DiskView D) (table : Table) (old new : Node D) → IsNodeAtRest view table old → IsSameReplica (replica_of new) (replica_of old)
    → runs_in new ≡ runs_in old → size_of_store (store_of new) ≡ size_of_store (store_of old) → IsInFormat2 (store_of new) → IsStoreAtRest view (disk_of new) (store_of new)
    → StoreKeeps (store_of new) (replica_of new).state.kept → IsNodeAtRest view table new
at_rest_still view table old new rest alike runs size format rests keeps =
    record {
      runs = runs ∙ rest.runs;
      member = rw alike.identity rest.member;
      few = rw alike.identity rest.few;
      of_table = of_table_alike table (replica_of old) (replica_of new) alike rest.of_table;
      coherent = rw (alike.identity, alike.state) rest.coherent;
      rests = rests;
      size = size ∙ rest.size;
      format = format;
      keeps = keeps;
    }

-- it leaves a coherent replica
step_coherent : (table : Table) (input : Input) (old new : ReplicaState) (event : Event) → old.identity.me < 8 → IsCoherent old.identity old.state → IsOfTable table old → IsEventOf table old input event
    → new.identity ≡ old.identity → new.state ≡ after_acts (step old.identity event old.state) old.state → IsCoherent new.identity new.state
step_coherent table input old new event few coherent of_table is identity state =
    rw (identity, state) (stays_coherent old.identity table event old.state few coherent (event_planned table old input event of_table is))

-- a node that has saved a change and taken its step is at rest
pub at_rest_after : {D : Type 0} (view : DiskView D) (table : Table) (input : Input) (old new : Node D) (now : ReplicaState) (planned : Planned) (delta : Option Delta) (out : StepOut)
    → IsNodeAtRest view table old → IsSameReplica now (replica_of old) → (plans : PlansStep table input (replica_of old) planned) → Takes table now (replica_of new) (step (replica_of old).identity plans.event (replica_of old).state) out
    → deltas_of (step (replica_of old).identity plans.event (replica_of old).state) ≡ option_to_list delta → runs_in new ≡ runs_in old → size_of_store (store_of new) ≡ size_of_store (store_of old)
    → IsInFormat2 (store_of new) → IsStoreAtRest view (disk_of new) (store_of new) → StoreKeeps (store_of new) (kept_after delta now.state.kept) → IsNodeAtRest view table new
at_rest_after view table input old new now planned delta out rest alike plans takes told runs size format rests keeps =
    let acts = step (replica_of old).identity plans.event (replica_of old).state in
    let identity : (replica_of new).identity ≡ (replica_of old).identity = takes.identity ∙ alike.identity in
    let state : (replica_of new).state ≡ after_acts acts (replica_of old).state = takes.state ∙ ap (after_acts acts) alike.state in
    let kept : kept_after delta now.state.kept ≡ (replica_of new).state.kept = sym (ap (λ (s : State). s.kept) takes.state ∙ kept_by_change acts now.state delta told) in
    record {
      runs = runs ∙ rest.runs;
      member = rw identity rest.member;
      few = rw identity rest.few;
      of_table = takes.of_table;
      coherent = step_coherent table input (replica_of old) (replica_of new) plans.event (few_members (replica_of old).identity.me (replica_of old).identity.members rest.member rest.few) rest.coherent rest.of_table plans.event_is identity state;
      rests = rests;
      size = size ∙ rest.size;
      format = format;
      keeps = subst (StoreKeeps (store_of new)) kept keeps;
    }

-- ---- images

-- of a weaker fact
pub leaves_weaker : {D : Type 0} (view : DiskView D) (old new : D) (P Q : Image → Type 0) → ((image : Image) → P image → Q image) → LeavesOnly view old new P → LeavesOnly view old new Q
leaves_weaker view old new P Q weaker leaves =
    record {
      later = leaves.later;
      each = λ image left. weaker image (leaves.each image left);
      before = λ start image le left. elim (leaves.before start image le left) [ inl past ↦ inl past | inr here ↦ inr (weaker image here) ];
    }

-- the state before a change or after it is that before the step or after it
pub either_around : (table : Table) (input : Input) (old now : ReplicaState) (size : TableSize) (delta : Option Delta) (plans_event : Event) → IsEventOf table old input plans_event → IsSameReplica now old → size ≡ table_size table
    → deltas_of (step old.identity plans_event old.state) ≡ option_to_list delta → (image : Image) → FilesStandForEither size now.state.kept (kept_after delta now.state.kept) image → FilesStandAround table input old image
either_around table input old now size delta event is alike same told image (inl before) =
    inl (subst (λ (state : State). FilesStand (table_size table) state.kept image) alike.state (subst (λ (n : TableSize). FilesStand n now.state.kept image) same before))
either_around table input old now size delta event is alike same told image (inr after) =
    let acts = step old.identity event old.state in
    let kept : kept_after delta now.state.kept ≡ (after_acts acts old.state).kept = ap (λ (state : State). kept_after delta state.kept) alike.state ∙ sym (kept_by_change acts old.state delta told) in
    inr (after_acts acts old.state, record { event = event; event_is = is; after_is = refl }, subst (λ (k : Durable). FilesStand (table_size table) k image) kept (subst (λ (n : TableSize). FilesStand n (kept_after delta now.state.kept) image) same after))

pub recoverable_around : (table : Table) (input : Input) (old now : ReplicaState) (size : TableSize) (delta : Option Delta) (event : Event) (may_leave : Image → Type 0) → IsEventOf table old input event → IsSameReplica now old → size ≡ table_size table
    → deltas_of (step old.identity event old.state) ≡ option_to_list delta → IsRecoverable size now.state.kept (kept_after delta now.state.kept) may_leave → IsRecoverableAround table input old may_leave
recoverable_around table input old now size delta event may_leave is alike same told recoverable =
    let acts = step old.identity event old.state in
    let kept : kept_after delta now.state.kept ≡ (after_acts acts old.state).kept = ap (λ (state : State). kept_after delta state.kept) alike.state ∙ sym (kept_by_change acts old.state delta told) in
    let before : now.state.kept ≡ old.state.kept = ap (λ (state : State). state.kept) alike.state in (
      after_acts acts old.state,
      record { event = event; event_is = is; after_is = refl },
      subst (λ (k : Durable). IsRecoverable (table_size table) old.state.kept k may_leave) kept
          (subst (λ (k : Durable). IsRecoverable (table_size table) k (kept_after delta now.state.kept) may_leave) before (subst (λ (n : TableSize). IsRecoverable n now.state.kept (kept_after delta now.state.kept) may_leave) same recoverable)),
    )

-- ---- the state that a step leads to

pub leads_to_one : (table : Table) (input : Input) (replica : ReplicaState) (one other : State) → LeadsTo table input replica one → LeadsTo table input replica other → one ≡ other
leads_to_one table input replica one other first second =
    first.after_is ∙ ap (λ (event : Event). after_acts (step replica.identity event replica.state) replica.state) (one_event table replica input first.event second.event first.event_is second.event_is) ∙ sym second.after_is
