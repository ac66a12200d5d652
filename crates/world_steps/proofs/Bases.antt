-- How many bases the replicas have kept behind one turn more, and how their disks are armed then.
use Rattle.std.proofs.Common.{◌≡◌, ◌≢◌, ℕ, Bool, true, false, List, [], ◌∷◌, ◌++◌, fold, Option, None, Some, refl, sym, ap, ◌∙◌, subst}
use Rattle.std.proofs.lemmas.List.Sums.{fold_push, fold-append}
use Rattle.std.specs.Option.{option_to_list}
use Rattle.disk_model.specs.declared.armed.Arm.{Arm}
use Rattle.due_set.specs.Table.{Table}
use Rattle.launch_machine.specs.Clerk.{first_rows}
use Rattle.paxos_base.specs.declared.durable.Delta.{Delta}
use Rattle.save_calls.specs.Save.{bases_after}
use Rattle.step_spec.specs.Folds.{deltas_of}
use Rattle.step_spec.specs.State.{Identity, State}
use Rattle.step_spec.specs.Step.{Event, step}
use Rattle.history.specs.Book.{Row, Standing, acts_at, after_row, standing_after, turn_of}
use Rattle.history.specs.Legal.{MayFollow, TakesTurn}
use Rattle.history.specs.declared.turn.CallRow.{CallRow}
use Rattle.history.specs.declared.turn.Cause.{Cause}
use Rattle.history.specs.declared.turn.Turn.{Turn}
use Rattle.history.specs.declared.turn.Turn.TheVariants.{Did, Stopped, Restarted, Arrived}
use Rattle.history.proofs.Keeping.{one_event}
use Rattle.replica_core.specs.Replica.{ReplicaState}
use Rattle.script_semantics.specs.Situation.{Armed, Situation, after_turn, after_turns, armed_after, arms_after, bases_kept, bases_with, calls_for, changes_in, first_situation}
use Rattle.world_law.proofs.Steps.{takes_turn}
use Rattle.world_law.specs.Book.{BookState, StandsBehind, standing_behind}
use Rattle.world_law.specs.Replicas.{IsInputOf, StandsAt}
use Rattle.world_steps.specs.Nodes.{bases_behind}
use Rattle.world_steps.specs.Parts.{IsBookAt, armed_in}
use Rattle.world_steps.proofs.Foreseen.{is_input}
use Rattle.world_steps.specs.Steps.{waits_in}
use Rattle.world_steps.specs.Stops.{IsNextStop}
use Rattle.world_steps.specs.Turns.{HasJoined, IsNextStep, arm_then}
use Rattle.world_steps.specs.declared.steps.Taken.{Taken}
use Rattle.history.proofs.FrontLemmas.{follows_there as may_next}
use Rattle.history.proofs.Standings.{fact_here, fact_there, is_another}

-- ---- bases behind rows

standing_of : (n : ℕ) (begun : Situation) (rows : List Row)
    → (after_turns n begun rows).standing ≡ fold (λ standing row. after_row n standing row.turn row.event row.letters) begun.standing rows
standing_of n begun [] = refl
standing_of n begun (row ∷ rows) = standing_of n (after_turn n begun row) rows

-- behind one row more
pub bases_row : (table : Table) (rows : List Row) (row : Row) (book after : BookState) → after.members ≡ book.members
    → bases_behind table (rows ++ row ∷ []) after ≡ bases_kept row.turn (changes_in book.members (standing_behind table rows book) row.turn row.event) (bases_behind table rows book)
bases_row table rows row book after members =
    ap (λ (n : ℕ). (after_turns n (first_situation n table) (rows ++ row ∷ [])).bases) members
    ∙ ap (λ (here : Situation). here.bases) (fold_push (after_turn book.members) (first_situation book.members table) rows row)
    ∙ ap (λ (standing : Standing). bases_kept row.turn (changes_in book.members standing row.turn row.event) (bases_behind table rows book))
    (standing_of book.members (first_situation book.members table) rows)

-- the situation has as many
pub bases_then : (table : Table) (rows : List Row) (row : Row) (book after : BookState) (situation : Situation) → IsBookAt table rows book situation → after.members ≡ book.members
    → (after_turn book.members situation row).bases ≡ bases_behind table (rows ++ row ∷ []) after
bases_then table rows row book after situation at members =
    ap (λ (standing : Standing). bases_kept row.turn (changes_in book.members standing row.turn row.event) situation.bases) at.standing
    ∙ ap (bases_kept row.turn (changes_in book.members (standing_behind table rows book) row.turn row.event)) at.bases
    ∙ sym (bases_row table rows row book after members)

pub others_keep : (turn : Turn) (changes : List Delta) (bases : ℕ → ℕ) (other : ℕ) → turn_of turn ≢ Some other → bases_kept turn changes bases other ≡ bases other
others_keep (Did who cause made) changes bases other differs = fact_there who _ bases other (is_another who other differs)
others_keep (Stopped who cause true) changes bases other differs = fact_there who _ bases other (is_another who other differs)
others_keep (Stopped who cause false) changes bases other differs = refl
others_keep (Restarted who) changes bases other differs = refl
others_keep (Arrived number) changes bases other differs = refl

-- another's are as many as they were
pub bases_there : (table : Table) (rows : List Row) (row : Row) (book after : BookState) (other : ℕ) → after.members ≡ book.members → turn_of row.turn ≢ Some other
    → bases_behind table (rows ++ row ∷ []) after other ≡ bases_behind table rows book other
bases_there table rows row book after other members differs =
    ap (λ (bases : ℕ → ℕ). bases other) (bases_row table rows row book after members)
    ∙ others_keep row.turn (changes_in book.members (standing_behind table rows book) row.turn row.event) (bases_behind table rows book) other differs

-- a turn that is no step keeps none
pub bases_same : (table : Table) (rows : List Row) (row : Row) (book after : BookState) → after.members ≡ book.members
    → ((changes : List Delta) (bases : ℕ → ℕ) → bases_kept row.turn changes bases ≡ bases)
    → bases_behind table (rows ++ row ∷ []) after ≡ bases_behind table rows book
bases_same table rows row book after members none =
    bases_row table rows row book after members ∙ none (changes_in book.members (standing_behind table rows book) row.turn row.event) (bases_behind table rows book)

pub bases_more : (one two : List Delta) (bases : ℕ) → bases_with (one ++ two) bases ≡ bases_with two (bases_with one bases)
bases_more one two bases = fold-append (λ (count : ℕ) (change : Delta). bases_after change count) bases one two

-- ---- arms

pub others_armed : (turn : Turn) (changes : List Delta) (arms : ℕ → Option Armed) (other : ℕ) → turn_of turn ≢ Some other → arms_after turn changes arms other ≡ arms other
others_armed (Did who cause made) changes arms other differs = fact_there who _ arms other (is_another who other differs)
others_armed (Stopped who cause kept) changes arms other differs = fact_there who _ arms other (is_another who other differs)
others_armed (Restarted who) changes arms other differs = refl
others_armed (Arrived number) changes arms other differs = refl

pub arm_spent : (changes : List Delta) (arm : Option Arm) → armed_in (arm_then (calls_for changes) arm) ≡ armed_after changes (armed_in arm)
arm_spent changes None = refl
arm_spent changes (Some arm) = refl

-- ---- the change of a turn

-- the book tells the replica of the cause in whose step it stops
pub told_stop : (table : Table) (rows : List Row) (book : BookState) (who : ℕ) (cause : Cause) (old : ReplicaState) (change : Delta) → (next : IsNextStop table rows book who cause old change)
    → IsInputOf (standing_behind table rows book) book old.identity.me cause next.began.input
told_stop table rows book who cause old change next =
    subst (λ (w : ℕ). IsInputOf (standing_behind table rows book) book w cause next.began.input) (sym next.me)
    (is_input (standing_behind table rows book) book book.letters (waits_in table rows book who) who cause next.began.input (λ number letter there. there) (λ row is. is) next.began.is_told)

-- acts by what stands are those of the replica that stands there
acts_of : (table : Table) (rows : List Row) (book : BookState) (old : ReplicaState) (event : Event) → StandsAt table rows book old
    → acts_at book.members (standing_behind table rows book) old.identity.me event ≡ step old.identity event old.state
acts_of table rows book old event at =
    ap (λ (self : Identity). step self event ((standing_behind table rows book).replicas old.identity.me)) (sym at.identity)
    ∙ ap (λ (state : State). step old.identity event state) (sym at.state)

-- whatever row of the turn may follow, its event is the one of which the replica was told
module _ (table : Table) (rows : List Row) (book : BookState) (old : ReplicaState) (cause : Cause) (event : Event) (at : StandsAt table rows book old)
    (takes : TakesTurn book.members table (standing_behind table rows book) old.identity.me cause event) where
  pub deltas_at : (other : Event) → TakesTurn book.members table (standing_behind table rows book) old.identity.me cause other
      → deltas_of (acts_at book.members (standing_behind table rows book) old.identity.me other) ≡ deltas_of (step old.identity event old.state)
  deltas_at other takes_other =
      ap (λ (e : Event). deltas_of (acts_at book.members (standing_behind table rows book) old.identity.me e))
      (one_event book.members table (standing_behind table rows book) old.identity.me cause other event takes_other takes)
      ∙ ap deltas_of (acts_of table rows book old event at)

-- the change of a step's turn is that of the step, by whatever row of the turn may follow
pub changes_by : (table : Table) (rows : List Row) (book : BookState) (who : ℕ) (taken : Taken) (old new : ReplicaState) (made : Option CallRow) (row : Row)
    → IsNextStep table rows book who taken old new → row.turn ≡ Did who taken.cause made → MayFollow book.members table (standing_behind table rows book) row.turn row
    → changes_in book.members (standing_behind table rows book) row.turn row.event ≡ option_to_list taken.out.delta
changes_by table rows book who taken old new made row next turn may =
    ap (λ (t : Turn). changes_in book.members s t row.event) turn
    ∙ subst (λ (w : ℕ). deltas_of (acts_at book.members s w row.event) ≡ deltas_of (step old.identity next.step.steps.event old.state)) next.me
    (deltas_at table rows book old taken.cause next.step.steps.event next.stands takes row.event mine)
    ∙ next.step.steps.took.delta
  where
    s : Standing
    s = standing_behind table rows book

    takes : TakesTurn book.members table s old.identity.me taken.cause next.step.steps.event
    takes =
        takes_turn table rows book taken.cause next.step.input old next.step.steps.event next.behind next.stands
        (subst (λ (w : ℕ). IsInputOf s book w taken.cause next.step.input) (sym next.me)
        (is_input s book book.letters (waits_in table rows book who) who taken.cause next.step.input (λ number letter there. there) (λ row is. is) next.step.is_told))
        next.step.inside next.step.steps.event_is

    mine : TakesTurn book.members table s old.identity.me taken.cause row.event
    mine = subst (λ (w : ℕ). TakesTurn book.members table s w taken.cause row.event) (sym next.me) (subst (λ (t : Turn). MayFollow book.members table s t row) turn may).0

-- the last of legal rows may follow those before it
pub last_may : (table : Table) (rows : List Row) (row : Row) (book after : BookState) → after.members ≡ book.members → StandsBehind table (rows ++ row ∷ []) after
    → MayFollow book.members table (standing_behind table rows book) row.turn row
last_may table rows row book after members behind =
    subst (λ (n : ℕ). MayFollow n table (standing_after n (first_rows table) rows) row.turn row) members (may_next after.members table rows [] row behind.legal)

pub changes_joined : (table : Table) (rows : List Row) (book after : BookState) (who : ℕ) (taken : Taken) (old new : ReplicaState) (made : Option CallRow) (row : Row)
    → IsNextStep table rows book who taken old new → HasJoined table rows book after who taken made row
    → changes_in book.members (standing_behind table rows book) row.turn row.event ≡ option_to_list taken.out.delta
changes_joined table rows book after who taken old new made row next joined =
    changes_by table rows book who taken old new made row next joined.turn (last_may table rows row book after joined.members joined.behind)

-- so it is of a stop within a step
pub changes_stopped : (table : Table) (rows : List Row) (book : BookState) (who : ℕ) (cause : Cause) (old : ReplicaState) (change : Delta) (kept : Bool) (row : Row)
    → IsNextStop table rows book who cause old change → row.turn ≡ Stopped who (Some cause) kept → MayFollow book.members table (standing_behind table rows book) row.turn row
    → changes_in book.members (standing_behind table rows book) row.turn row.event ≡ change ∷ []
changes_stopped table rows book who cause old change kept row next turn may =
    ap (λ (t : Turn). changes_in book.members s t row.event) turn
    ∙ subst (λ (w : ℕ). deltas_of (acts_at book.members s w row.event) ≡ deltas_of (step old.identity next.began.event old.state)) next.me
    (deltas_at table rows book old cause next.began.event next.stands takes row.event mine)
    ∙ next.began.changes
  where
    s : Standing
    s = standing_behind table rows book

    takes : TakesTurn book.members table s old.identity.me cause next.began.event
    takes = takes_turn table rows book cause next.began.input old next.began.event next.behind next.stands (told_stop table rows book who cause old change next) next.began.inside next.began.event_is

    mine : TakesTurn book.members table s old.identity.me cause row.event
    mine = subst (λ (w : ℕ). TakesTurn book.members table s w cause row.event) (sym next.me) (subst (λ (t : Turn). MayFollow book.members table s t row) turn may).0

-- the replica has kept as many bases as its step has
pub bases_here : (table : Table) (rows : List Row) (book after : BookState) (who : ℕ) (taken : Taken) (old new : ReplicaState) (made : Option CallRow) (row : Row)
    → IsNextStep table rows book who taken old new → HasJoined table rows book after who taken made row
    → bases_behind table (rows ++ row ∷ []) after who ≡ bases_with (option_to_list taken.out.delta) (bases_behind table rows book who)
bases_here table rows book after who taken old new made row next joined =
    ap (λ (bases : ℕ → ℕ). bases who) (bases_row table rows row book after joined.members)
    ∙ ap (λ (turn : Turn). bases_kept turn (changes_in book.members (standing_behind table rows book) row.turn row.event) (bases_behind table rows book) who) joined.turn
    ∙ fact_here who _ (bases_behind table rows book)
    ∙ ap (λ (changes : List Delta). bases_with changes (bases_behind table rows book who)) (changes_joined table rows book after who taken old new made row next joined)
