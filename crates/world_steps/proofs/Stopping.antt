-- A step on a disk that is armed: what comes of a stop.
use Rattle.std.proofs.Common.{◌≡◌, ℕ, ◌+◌, ◌<◌, Bool, true, false, List, [], ◌∷◌, ◌++◌, Option, None, Some, Result, refl, sym, ap, ◌∙◌, subst, ◌⊎◌, inl, inr, arith}
use Rattle.std.specs.Prelude.{IsErrOf, IsSome, IsSomeAnd, IsTrue, is_some}
use Rattle.std.specs.Option.{option_to_list}
use Rattle.std.proofs.lemmas.Bool.{cases_Bool}
use Rattle.disk_model.specs.Told.{Told}
use Rattle.disk_model.specs.declared.armed.Arm.{Arm}
use Rattle.disk_model.specs.View.{DiskView}
use Rattle.due_set.specs.Table.{Table}
use Rattle.paxos_base.specs.declared.durable.Delta.{Delta}
use Rattle.paxos_base.specs.declared.durable.Durable.{Durable}
use Rattle.save_calls.specs.Save.{is_kept}
use Rattle.step_spec.specs.State.{started}
use Rattle.agreement.specs.Transition.{identity_of}
use Rattle.history.specs.Book.{Row}
use Rattle.history.specs.Legal.{MayFollow}
use Rattle.history.specs.declared.turn.Cause.{Cause}
use Rattle.history.specs.declared.turn.Turn.{Turn}
use Rattle.history.specs.declared.turn.Turn.TheVariants.{Stopped as Halts}
use Rattle.replica_core.specs.Commit.{kept_after}
use Rattle.replica_core.specs.Replica.{ReplicaState}
use Rattle.replica_core.specs.declared.input.Input.{Input}
use Rattle.replica_node.proofs.ArmLemmas.{decides_keeps}
use Rattle.replica_node.specs.Kept as saved
use Rattle.replica_node.specs.Kept.{IsAnsweredByArm, IsNodeClean, KeepsChange, area_by, area_for}
use Rattle.replica_node.specs.Node.{IsChangeOf, IsNodeAtRest, disk_of, replica_of, store_of}
use Rattle.replica_node.specs.Reliable.{CantFail, IsReliable, IsUnfailingAfter}
use Rattle.replica_node.specs.declared.fault.NodeFault.{NodeFault}
use Rattle.replica_node.specs.declared.fault.NodeFault.TheVariants.{Stopped}
use Rattle.replica_node.specs.declared.node.Node.{Node}
use Rattle.replica_store.specs.Store.{area_of}
use Rattle.script_semantics.specs.Situation.{bases_kept, bases_with, calls_for}
use Rattle.world_law.proofs.Stops.{stop_within}
use Rattle.world_law.specs.Book.{BookState, standing_behind}
use Rattle.world_law.specs.Replicas.{IsStopOf, StandsAt}
use Rattle.world_steps.specs.Nodes.{bases_behind}
use Rattle.world_steps.proofs.Bases.{bases_row, changes_stopped, told_stop}
use Rattle.world_steps.proofs.StepLemmas.{area_with}
use Rattle.world_steps.specs.Steps.{IsBeside, WasToldOf}
use Rattle.world_steps.specs.Stops.{HasStopped, IsAttached, IsNextStop, change_kept}
use Rattle.history.proofs.Standings.{fact_here}

-- what tells something of itself tells
pub and_some : {X : Type 0} (P : X → Type 0) (told : Option X) → IsSomeAnd told P → IsSome told
and_some P None has = absurd has
and_some P (Some told) has = refl

-- a disk that was unfailing and has stopped can't fail
pub cant_fail : {T : Type 0} (answer : Result T NodeFault) (told : Option Told) → IsErrOf answer Stopped → IsUnfailingAfter answer told → CantFail told
cant_fail {T} answer told stopped after = subst (λ (r : Result T NodeFault). IsUnfailingAfter r told) stopped after

-- the calls that save the change of a step
pub calls_same : (change : Option Delta) → calls_for (option_to_list change) ≡ saved.calls_of_change change
calls_same None = refl
calls_same (Some change) = omega arith

-- a change that is kept by the numbers is answered, and else none is
pub answer_is : (bases : ℕ) (change : Delta) (arm : Arm) (kept : Durable) (answer : Option Delta) → IsAnsweredByArm (area_by bases) kept change arm answer
    → ((KeepsChange (area_by bases) change arm → ⊥) → answer ≡ None) → answer ≡ change_kept (is_kept bases change arm.left arm.image) change
answer_is bases change arm kept answer answered lost =
    let decides = decides_keeps bases change arm in
    elim (cases_Bool (is_kept bases change arm.left arm.image)) [
      | inl is ↦ rw is (answered.saved (decides.0 (subst IsTrue (sym is) refl)))
      | inr isnt ↦ rw isnt (lost (λ keeps. absurd (let no = subst IsTrue isnt (decides.1 keeps) in cc)))
    ]

pub kept_is : (kept : Bool) (change : Delta) → is_some (change_kept kept change) ≡ kept
kept_is true change = refl
kept_is false change = refl

module _ {D : Type 0} (view : DiskView D) (table : Table) where
  -- a replica that is no step ahead stands where the book has it
  pub stands_beside : (rows : List Row) (book : BookState) (who : ℕ) (node : Node D) → IsBeside view table rows book who [] node → StandsAt table rows book (replica_of node)
  stands_beside rows book who node beside = subst (λ (replica : ReplicaState). StandsAt table rows book replica) (sym beside.ahead.took) beside.ahead.stands

  pub has_stopped : (rows : List Row) (book : BookState) (who members : ℕ) (node new : Node D) (cause : Cause) (input : Input) (arm : Arm) (answer : Option Delta) (change : Delta)
      → IsBeside view table rows book who [] node → WasToldOf table rows book who [] cause input → IsChangeOf table input (replica_of node) (Some change) → arm.left < saved.calls_of_change (Some change)
      → IsAnsweredByArm (area_of (store_of node)) (replica_of node).state.kept change arm answer
      → ((KeepsChange (area_of (store_of node)) change arm → ⊥) → answer ≡ None)
      → IsNodeAtRest view table new → view.honest (disk_of new) → IsReliable (view.told (disk_of new)) → IsNodeClean view new
      → area_of (store_of new) ≡ area_for answer (area_of (store_of node)) → (replica_of new).identity ≡ identity_of members who → book.members ≡ members
      → (replica_of new).state ≡ started who (replica_of new).state.kept → (replica_of new).state.kept ≡ kept_after answer (replica_of node).state.kept
      → HasStopped table rows book who cause arm answer (replica_of new).state.kept × IsAttached view table rows book who answer new
  has_stopped rows book who members node new cause input arm answer change beside told changes few answered lost rest trusted reliable clean area identity same start keeps = (
    record {
      old = replica_of node;
      change = change;
      next = record {
        behind = beside.behind;
        rest = beside.rest;
        few = beside.few;
        stands = stands_beside rows book who node beside;
        me = ap (λ (replica : ReplicaState). replica.identity.me) beside.ahead.took ∙ beside.ahead.me;
        began = record { input = input; is_told = told.is_told; inside = told.inside; event = changes.event; event_is = changes.event_is; changes = changes.change_is };
      };
      few = few;
      is_kept =
          answer_is bases change arm (replica_of node).state.kept answer (subst (λ area. IsAnsweredByArm area (replica_of node).state.kept change arm answer) in_use answered)
          (λ loses. lost (λ keeps. loses (subst (λ area. KeepsChange area change arm) in_use keeps)));
      keeps = keeps;
    },
    record {
      at_rest = rest;
      trusted = trusted;
      disk = record { reliable = reliable; clean = clean; area = area ∙ ap (area_for answer) in_use ∙ area_with answer bases };
      identity = identity ∙ ap (λ (n : ℕ). identity_of n who) (sym same);
      started_with = start;
    },
  )
    where
      bases : ℕ
      bases = bases_behind table rows book who

      in_use : area_of (store_of node) ≡ area_by bases
      in_use = beside.ahead.disk.area

-- ---- the turn of a stop

-- a stop within a step is the next turn, with the change that is answered
pub stop_turn : (table : Table) (rows : List Row) (book : BookState) (who : ℕ) (cause : Cause) (old : ReplicaState) (change : Delta) (kept : Bool) → IsNextStop table rows book who cause old change
    → IsStopOf table rows book who (Some cause) (change_kept kept change) (kept_after (change_kept kept change) old.state.kept)
stop_turn table rows book who cause old change kept next =
    subst (λ (w : ℕ). IsStopOf table rows book w (Some cause) (change_kept kept change) (kept_after (change_kept kept change) old.state.kept)) next.me
    (stop_within table rows book cause next.began.input old next.began.event change next.behind next.stands (told_stop table rows book who cause old change next) next.began.inside next.began.event_is
    next.began.changes (change_kept kept change) (either kept))
  where
    either : (kept : Bool) → (change_kept kept change ≡ Some change) ⊎ (change_kept kept change ≡ None)
    either true = inl refl
    either false = inr refl

kept_count : (who : ℕ) (cause : Cause) (kept : Bool) (change : Delta) (bases : ℕ → ℕ)
    → bases_kept (Halts who (Some cause) kept) (change ∷ []) bases who ≡ bases_with (option_to_list (change_kept kept change)) (bases who)
kept_count who cause true change bases = fact_here who (bases_with (change ∷ []) (bases who)) bases
kept_count who cause false change bases = refl

-- behind it the replica has kept as many bases as the answer says
pub bases_stopped : (table : Table) (rows : List Row) (book after : BookState) (who : ℕ) (cause : Cause) (old : ReplicaState) (change : Delta) (kept : Bool) (row : Row) → after.members ≡ book.members
    → IsNextStop table rows book who cause old change → row.turn ≡ Halts who (Some cause) kept → MayFollow book.members table (standing_behind table rows book) row.turn row
    → bases_behind table (rows ++ row ∷ []) after who ≡ bases_with (option_to_list (change_kept kept change)) (bases_behind table rows book who)
bases_stopped table rows book after who cause old change kept row members next turn may =
    ap (λ (bases : ℕ → ℕ). bases who) (bases_row table rows row book after members)
    ∙ ap (λ (changes : List Delta). bases_kept row.turn changes (bases_behind table rows book) who) (changes_stopped table rows book who cause old change kept row next turn may)
    ∙ ap (λ (t : Turn). bases_kept t (change ∷ []) (bases_behind table rows book) who) turn
    ∙ kept_count who cause kept change (bases_behind table rows book)
