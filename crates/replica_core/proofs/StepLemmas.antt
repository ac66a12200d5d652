-- A step that is planned, and taken at once.
use Rattle.std.proofs.Common.{◌≡◌, Option, None, Some, refl, sym, ap, subst, ◌∙◌}
use Rattle.std.specs.Option.{option_map, option_to_list}
use Rattle.due_set.specs.Table.{Table}
use Rattle.launch_machine.specs.Clerk.{AppliesAll}
use Rattle.launch_machine.specs.Machine.{Launches, StandsFor}
use Rattle.paxos_base.specs.declared.durable.Delta.{Delta}
use Rattle.cluster_sched.specs.declared.row.SchedRow.{SchedRow}
use Rattle.step_spec.specs.State.{State}
use Rattle.step_spec.specs.Step.{IsLaunchTable, step}
use Rattle.term_core.specs.Term.{best_votes}
use Rattle.replica_draft.specs.Draft.{Desk, FixedParts, calls_in, delta_of, deltas_in, done, drafted, entries_in}
use Rattle.replica_draft.specs.declared.change.Change.{Change}
use Rattle.replica_draft.specs.declared.draft.Draft.{Draft}
use Rattle.replica_core.specs.Commit.{entries_with, launches_of}
use Rattle.replica_core.specs.Replica.{IsAlikeCore, IsDraftSteady, IsWhole, fixed_of, own_identity, idle_in, replica_of_core, state_of}
use Rattle.replica_core.specs.Step.{CanTake, IsOfTable, PlansStep, Steps}
use Rattle.replica_core.specs.declared.input.Input.{Input}
use Rattle.replica_core.specs.declared.out.Effects.{Effects}
use Rattle.replica_core.specs.declared.out.StepOut.{StepOut}
use Rattle.replica_core.specs.declared.parts.Core.{Core}
use Rattle.replica_core.proofs.WholeLemmas.{identity-alike, launches_after, state-alike, steady_of, whole-alike}

delta_told : (made : Option Change) → deltas_in made ≡ option_to_list (option_map delta_of made)
delta_told None = refl
delta_told (Some change) = refl

call_told : (call : Option SchedRow) → calls_in call ≡ option_to_list call
call_told None = refl
call_told (Some row) = refl

-- what comes of a step that is planned and taken at once
pub stepped : (table : Table) (input : Input) (old core new : Core) (draft : Draft) (effects : Effects) (out : StepOut) → IsAlikeCore core old → IsWhole old → IsOfTable table (replica_of_core old)
    → PlansStep table input (replica_of_core old) (record { draft = draft; effects = effects }) → CanTake table (replica_of_core core) (record { draft = draft; effects = effects })
    → state_of new ≡ (drafted (fixed_of core) draft).state → own_identity new ≡ own_identity core → StandsFor table new.machine
    → AppliesAll table (launches_of draft.change core.machine).rows (entries_with draft.change (entries_in draft.learnt.items)) new.machine.rows
    → out.delta ≡ effects.delta → out.letters ≡ effects.letters → out.learnt ≡ draft.learnt.items → out.call ≡ draft.call
    → Steps table input (replica_of_core old) (replica_of_core new) out
stepped table input old core new draft effects out alike whole of_table planned can after identity stands applied delta letters learnt call =
    let state : state_of core ≡ state_of old = state-alike core old alike in
    let fixed : fixed_of core ≡ fixed_of old = ap (λ (state : State). record { durable = state.kept; learned = state.learned; best = best_votes state.term }) state in
    let desk : drafted (fixed_of core) draft ≡ done (step (own_identity old) planned.event (state_of old)) (idle_in (replica_of_core old)) =
    ap (λ (fixed : FixedParts). drafted fixed draft) fixed ∙ planned.plans.makes in
    let steady : IsDraftSteady table core draft = steady_of table core draft (whole-alike core old alike whole) can.steady in
    let before : IsLaunchTable table (state_of core) core.machine.rows =
    subst (λ (state : State). IsLaunchTable table state core.machine.rows) (sym state) (subst (λ (machine : Launches). IsLaunchTable table (state_of old) machine.rows) (sym alike.machine) of_table.rows) in
    record {
      event = planned.event;
      event_is = planned.event_is;
      took = record {
        identity = identity ∙ identity-alike core old alike;
        state = after ∙ ap (λ (desk : Desk). desk.state) desk;
        of_table = record { stands = stands; rows = launches_after table core new draft steady after before applied };
        delta = sym (ap (λ (desk : Desk). desk.deltas) desk) ∙ delta_told draft.change ∙ ap (λ (delta : Option Delta). option_to_list delta) (sym (delta ∙ planned.plans.delta));
        letters = rw letters planned.plans.letters;
        learnt = learnt ∙ ap (λ (desk : Desk). desk.learnt) desk;
        call = sym (ap (λ (desk : Desk). desk.calls) desk) ∙ call_told draft.call ∙ ap (λ (call : Option SchedRow). option_to_list call) (sym call);
      };
    }
