-- A step that is planned, saved and taken.
use Rattle.std.proofs.Common.{◌≡◌, ℕ, ◌<◌, List, [], ◌∷◌, Option, None, Some, refl, sym, ap, ◌∙◌, subst, arith}
use Rattle.std.specs.Option.{option_to_list}
use Rattle.launch_machine.specs.Clerk.{table_size}
use Rattle.due_set.specs.Table.{Table}
use Rattle.launch_machine.specs.Machine.{Launches}
use Rattle.paxos_base.specs.Rows.{RowsStand}
use Rattle.paxos_base.specs.declared.durable.Delta.{Delta}
use Rattle.paxos_base.specs.declared.durable.Durable.{Durable}
use Rattle.paxos_base.specs.declared.rows.JobRow.{JobRow}
use Rattle.step_spec.specs.Act.{Act}
use Rattle.step_spec.specs.Coherent.{IsCoherent}
use Rattle.step_spec.specs.Folds.{after_acts, deltas_of}
use Rattle.step_spec.specs.State.{State, prefix_of}
use Rattle.step_spec.specs.Step.{Event, IsPlanned, step}
use Rattle.step_spec.specs.Step as told
use Rattle.store_format.specs.Order.{ChangeMayFollow, after_deltas}
use Rattle.durable_changes.specs.Changes.{BaseMayFollow}
use Rattle.durable_changes.specs.Anew.{ProposesAnew}
use Rattle.durable_changes.proofs.Altering.{Alters, change_alters, kept_by_acts}
use Rattle.durable_changes.proofs.Changes.{changes_follow}
use Rattle.step_spec.proofs.Said.{setting_of, step_may_be_done}
use Rattle.replica_draft.specs.Draft.{Desk, delta_of, deltas_in}
use Rattle.replica_draft.specs.declared.change.Change.{Change}
use Rattle.replica_draft.specs.declared.change.Change.TheVariants as change
use Rattle.replica_core.specs.Commit.{kept_after}
use Rattle.replica_core.specs.Replica.{IsSupplied, ReplicaState}
use Rattle.replica_core.specs.Step.{CanTake, IsSameReplica, IsEventOf, IsOfTable, Plans, PlansStep}
use Rattle.replica_core.specs.declared.input.Input.{Input}
use Rattle.replica_core.specs.declared.input.Input.TheVariants.{Campaign, Tick, Hear, Answer}
use Rattle.replica_core.specs.declared.replica.Planned.{Planned}

-- ---- what is kept after a step

kept_by_delta : (delta : Option Delta) (kept : Durable) → after_deltas (option_to_list delta) kept ≡ kept_after delta kept
kept_by_delta None kept = refl
kept_by_delta (Some delta) kept = refl

-- with one change at most, it is what that does
pub kept_by_change : (acts : List Act) (state : State) (delta : Option Delta) → deltas_of acts ≡ option_to_list delta → (after_acts acts state).kept ≡ kept_after delta state.kept
kept_by_change acts state delta is =
    kept_by_acts acts state ∙ ap (λ (changes : List Delta). after_deltas changes state.kept) is ∙ kept_by_delta delta state.kept

-- ---- that the change may follow

-- the launch table says of an input's event what the event tells
pub event_planned : (table : Table) (replica : ReplicaState) (input : Input) (event : Event) → IsOfTable table replica → IsEventOf table replica input event → IsPlanned table replica.state event
event_planned table replica Campaign event of_table is = subst (IsPlanned table replica.state) (sym is) tt
event_planned table replica (Tick now) event of_table is =
    let plan = is.0 in
    let asked = is.1 in
    subst (IsPlanned table replica.state) (sym is.2)
    (subst (λ (rows : List JobRow). told.IsLaunchTable table replica.state rows) (sym asked.rows) of_table.rows, asked.intent)
event_planned table replica (Hear bytes) event of_table is = subst (IsPlanned table replica.state) (sym is.3) tt
event_planned table replica (Answer job at kind) event of_table is = subst (IsPlanned table replica.state) (sym is) of_table.rows

first_is : (one other : Delta) → one ∷ [] ≡ other ∷ [] → one ≡ other
first_is one other is = cc

base_of_change : (table : Table) (machine : Launches) (base prefix : ℕ) (kept : Durable) (made : Change) → kept.base ≡ base → IsSupplied table machine base prefix (Some made) → BaseMayFollow (table_size table) kept (delta_of made)
base_of_change table machine base prefix kept (change.Tried ballot) is supplied = tt
base_of_change table machine base prefix kept (change.Promised ballot) is supplied = tt
base_of_change table machine base prefix kept (change.Voted vote) is supplied = tt
base_of_change table machine base prefix kept (change.Rebased rebased) is supplied =
    let past = supplied.past in
    (omega (arith, is, past), subst (λ (rows : List JobRow). RowsStand rows (table_size table)) supplied.rows supplied.stands.rows)

base_of_made : (table : Table) (machine : Launches) (base prefix : ℕ) (kept : Durable) (made : Option Change) (delta : Delta) → kept.base ≡ base → IsSupplied table machine base prefix made → deltas_in made ≡ delta ∷ [] → BaseMayFollow (table_size table) kept delta
base_of_made table machine base prefix kept None delta is supplied some = absurd (cc some)
base_of_made table machine base prefix kept (Some made) delta is supplied some =
    subst (BaseMayFollow (table_size table) kept) (first_is (delta_of made) delta some) (base_of_change table machine base prefix kept made is supplied)

-- a step's plan, where it is a replica's, is also that of one alike
pub plans_alike : (old now : ReplicaState) (acts : List Act) (planned : Planned) → IsSameReplica now old → Plans old acts planned → Plans now acts planned
plans_alike old now acts planned alike plans =
    record {
      makes = rw alike.state plans.makes;
      letters = rw alike.identity plans.letters;
      delta = plans.delta;
    }

-- the changes of a plan's acts are that of its draft
drafted_deltas : (replica : ReplicaState) (acts : List Act) (planned : Planned) → Plans replica acts planned → deltas_in planned.draft.change ≡ deltas_of acts
drafted_deltas replica acts planned plans = ap (λ (desk : Desk). desk.deltas) plans.makes

-- the change of a planned step may follow what the replica keeps
pub change_follows : (table : Table) (input : Input) (old now : ReplicaState) (planned : Planned) (delta : Option Delta) (change : Delta) → old.identity.me < 8 → IsCoherent old.identity old.state → IsOfTable table old
    → IsSameReplica now old → (plans : PlansStep table input old planned) → CanTake table now planned → deltas_of (step old.identity plans.event old.state) ≡ option_to_list delta → delta ≡ Some change
    → ChangeMayFollow (table_size table) now.state.kept change
change_follows table input old now planned delta change few coherent of_table alike plans can told is =
    let acts = step old.identity plans.event old.state in
    let one : deltas_of acts ≡ change ∷ [] = told ∙ ap (λ (d : Option Delta). option_to_list d) is in
    let planned_event = event_planned table old input plans.event of_table plans.event_is in
    let base : now.state.kept.base ≡ now.state.kept.base = refl in
    let may : BaseMayFollow (table_size table) now.state.kept change =
    base_of_made table now.machine now.state.kept.base (prefix_of now.state) now.state.kept planned.draft.change change base can.steady.supplied (drafted_deltas old acts planned plans.plans ∙ one) in
    subst (λ (state : State). ChangeMayFollow (table_size table) state.kept change) (sym alike.state)
    (changes_follow (setting_of old.identity table plans.event) (table_size table) acts old.state change coherent (step_may_be_done old.identity table plans.event old.state few coherent planned_event) one
    (subst (λ (state : State). BaseMayFollow (table_size table) state.kept change) alike.state may))

-- it alters what the replica keeps, where the replica proposes anew
pub planned_alters : (old now : ReplicaState) (event : Event) (delta : Option Delta) (change : Delta) → old.identity.me < 8 → IsSameReplica now old → deltas_of (step old.identity event old.state) ≡ option_to_list delta → delta ≡ Some change
    → ProposesAnew now.state → Alters now.state.kept change
planned_alters old now event delta change few alike told is =
    let one : deltas_of (step old.identity event old.state) ≡ change ∷ [] = told ∙ ap (λ (d : Option Delta). option_to_list d) is in
    subst (λ (state : State). ProposesAnew state → Alters state.kept change) (sym alike.state) (λ anew. change_alters old.identity event old.state change few anew one)
