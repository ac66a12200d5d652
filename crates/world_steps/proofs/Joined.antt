-- A step that becomes a turn of a book.
use Rattle.std.proofs.Common.{◌≡◌, ℕ, List, [], ◌∷◌, ◌++◌, length, Option, None, Some, IfSome, refl, sym, ◌∙◌, subst}
use Rattle.std.specs.Option.{option_to_list}
use Rattle.cluster_sched.specs.declared.row.SchedRow.{SchedRow}
use Rattle.due_set.specs.Table.{Table}
use Rattle.step_spec.specs.Step.{Event, step}
use Rattle.step_spec.specs.Step as event
use Rattle.history.specs.Book.{Row}
use Rattle.history.specs.Legal.{IsMade, MayFollow}
use Rattle.history.specs.declared.turn.CallRow.{CallRow}
use Rattle.history.specs.declared.turn.Cause.{Cause}
use Rattle.history.specs.declared.turn.Cause.TheVariants.{Campaign, Tick, Hear, Answer}
use Rattle.history.specs.declared.turn.Turn.TheVariants.{Did}
use Rattle.replica_core.specs.Replica.{ReplicaState}
use Rattle.replica_core.specs.Step.{IsEventOf, Steps}
use Rattle.replica_core.specs.declared.input.Input.{Input}
use Rattle.replica_core.specs.declared.input.Input.TheVariants as told
use Rattle.replica_core.specs.declared.out.StepOut.{StepOut}
use Rattle.world_law.specs.Book.{BookState, Commits, HasRoom, IsSameBook, IsNext, IsRowOf, MayTickFor, StandsBehind, standing_behind}
use Rattle.world_law.specs.Replicas.{IsInputOf, IsLetterInput, IsTurnOf, StandsAt}
use Rattle.world_law.proofs.Called.{alike_stands}
use Rattle.world_law.proofs.Steps.{step_is_turn, step_may_call}
use Rattle.world_steps.proofs.Calls.{IsNoTick, no_call}
use Rattle.world_steps.proofs.Foreseen.{is_input}
use Rattle.world_steps.specs.Steps.{IsToldOf, TookStep, waits_in}
use Rattle.world_steps.specs.Turns.{HasJoinedAt, IsNextStep}
use Rattle.world_steps.specs.declared.steps.Taken.{Taken}
use Rattle.step_spec.proofs.ListLemmas.{found_still as found_more}

-- a replica stands at the same place in a book of as many replicas
pub at_alike : (table : Table) (rows : List Row) (book other : BookState) (replica : ReplicaState) → other.members ≡ book.members → StandsAt table rows book replica
    → StandsAt table rows other replica
at_alike table rows book other replica same at = record {
  identity = rw same at.identity;
  member = rw same at.member;
  runs = rw same at.runs;
  state = rw same at.state;
  of_table = at.of_table;
}

-- a step beside a book is one beside the book with more room
pub next_alike : (table : Table) (rows : List Row) (book during : BookState) (who : ℕ) (taken : Taken) (old new : ReplicaState) → IsSameBook during book
    → IsNextStep table rows book who taken old new → IsNextStep table rows during who taken old new
next_alike table rows book during who taken old new alike next = record {
  behind = alike_stands table rows book during alike next.behind;
  rest = alike.pending ∙ next.rest;
  few = rw alike.members next.few;
  stands = at_alike table rows book during old alike.members next.stands;
  me = next.me;
  step = rw (alike.letters, alike.members) next.step;
}

-- the book tells the replica of the cause
told_by : (table : Table) (rows : List Row) (book : BookState) (who : ℕ) (taken : Taken) (old new : ReplicaState) → (next : IsNextStep table rows book who taken old new)
    → IsInputOf (standing_behind table rows book) book old.identity.me taken.cause next.step.input
told_by table rows book who taken old new next =
    subst (λ who. IsInputOf (standing_behind table rows book) book who taken.cause next.step.input) (sym next.me)
    (is_input (standing_behind table rows book) book book.letters (waits_in table rows book who) who taken.cause next.step.input (λ number letter there. there) (λ row is. is)
    next.step.is_told)

no_tick_told : (table : Table) (old : ReplicaState) (bytes : List ℕ) (input : Input) (event : Event) → IsLetterInput input bytes → IsEventOf table old input event → IsNoTick event
no_tick_told table old bytes told.Campaign event is of = absurd is
no_tick_told table old bytes (told.Tick now) event is of = absurd is
no_tick_told table old bytes (told.Hear letter) event is of = rw of.3 tt
no_tick_told table old bytes (told.Answer job at kind) event is of = absurd is

none_called : (table : Table) (old new : ReplicaState) (input : Input) (out : StepOut) → (steps : Steps table input old new out) → IsNoTick steps.event → option_to_list out.call ≡ []
none_called table old new input out steps no_tick = sym steps.took.call ∙ no_call old.identity steps.event old.state no_tick

no_some : (asked : Option SchedRow) (row : SchedRow) → option_to_list asked ≡ [] → asked ≡ Some row → ⊥
no_some None row none is = cc
no_some (Some other) row none is = cc

-- the call that it asks for may be made
pub may_call : (table : Table) (rows : List Row) (book : BookState) (who : ℕ) (taken : Taken) (old new : ReplicaState) → IsNextStep table rows book who taken old new
    → HasRoom (length taken.out.letters) book → (asked : Option SchedRow) → taken.out.call ≡ asked → IfSome asked (λ row. MayTickFor table book row)
may_call table rows book who taken old new next room None is = tt
may_call table rows book who taken old new next room (Some row) is = go taken.cause refl
  where
    step : TookStep table book.letters (waits_in table rows book who) who taken old new
    step = next.step

    no : IsNoTick step.steps.event → ⊥
    no no_tick = no_some taken.out.call row (none_called table old new step.input taken.out step.steps no_tick) is

    go : (cause : Cause) → taken.cause ≡ cause → MayTickFor table book row
    go Campaign of =
        let told : step.input ≡ told.Campaign = subst (λ cause. IsToldOf book.letters (waits_in table rows book who) who cause step.input) of step.is_told in
        let event : step.steps.event ≡ event.Campaign = subst (λ input. IsEventOf table old input step.steps.event) told step.steps.event_is in
        absurd (no (rw event tt))
    go (Tick now) of =
        let told : step.input ≡ told.Tick now = subst (λ cause. IsToldOf book.letters (waits_in table rows book who) who cause step.input) of step.is_told in
        step_may_call table rows book now step.input old new taken.out row next.behind next.stands told step.inside step.steps is room
    go (Hear number) of =
        let told = subst (λ cause. IsToldOf book.letters (waits_in table rows book who) who cause step.input) of step.is_told in
        absurd (no (no_tick_told table old told.sent.letter.bytes step.input step.steps.event told.is step.steps.event_is))
    go Answer of =
        let told = subst (λ cause. IsToldOf book.letters (waits_in table rows book who) who cause step.input) of step.is_told in
        let event : step.steps.event ≡ event.Answer told.row.name.job told.row.name.at told.row.kind old.machine.rows =
        subst (λ input. IsEventOf table old input step.steps.event) told.is step.steps.event_is in
        absurd (no (rw event tt))

-- the turn of the step
pub turn_of_step : (table : Table) (rows : List Row) (book : BookState) (who : ℕ) (taken : Taken) (old new : ReplicaState) (made : Option CallRow) → IsNextStep table rows book who taken old new
    → IsMade (standing_behind table rows book).held (option_to_list taken.out.call) made → IsTurnOf table rows book who taken.cause made taken.out new
turn_of_step table rows book who taken old new made next call =
    subst (λ who. IsTurnOf table rows book who taken.cause made taken.out new) next.me
    (step_is_turn table rows book taken.cause made next.step.input old new taken.out next.few next.behind next.stands (told_by table rows book who taken old new next)
    next.step.inside next.step.steps call)

-- may come next in the book, once the call is made
pub turn_may_come : (table : Table) (rows : List Row) (book during : BookState) (who : ℕ) (taken : Taken) (old new : ReplicaState) (made : Option CallRow)
    → IsNextStep table rows book who taken old new → during.members ≡ book.members → StandsBehind table rows during
    → IsMade (standing_behind table rows book).held (option_to_list taken.out.call) made → IsNext table during (Did who taken.cause made) taken.out
turn_may_come table rows book during who taken old new made next members behind call =
    let turn = turn_of_step table rows book who taken old new made next call in
    record { rows = rows; behind = behind; row = turn.row; is = turn.is; may = rw members turn.may }

-- and joins it: the book was `book`, `ready` with more room, `during` with the call, and is `after`
pub has_joined : (table : Table) (rows : List Row) (book ready during after : BookState) (who : ℕ) (taken : Taken) (old new : ReplicaState) (made : Option CallRow)
    → IsNextStep table rows book who taken old new → IsSameBook ready book → during.members ≡ ready.members → during.letters ≡ ready.letters → StandsBehind table rows during
    → IsMade (standing_behind table rows ready).held (option_to_list taken.out.call) made
    → Commits (Did who taken.cause made) taken.out.letters during after
    → ((rows : List Row) (row : Row) → StandsBehind table rows during → IsRowOf (Did who taken.cause made) taken.out row
    → MayFollow during.members table (standing_behind table rows during) row.turn row → StandsBehind table (rows ++ row ∷ []) after)
    → HasJoinedAt table rows book after who taken made new
has_joined table rows book ready during after who taken old new made next alike members letters behind call commits added =
    let turn = turn_of_step table rows ready who taken old new made (next_alike table rows book ready who taken old new alike next) call in
    record {
      row = turn.row;
      joined = record {
        turn = turn.is.turn_is;
        letters = turn.is.letters;
        behind = added rows turn.row behind turn.is (rw members turn.may);
        rest = commits.pending;
        members = commits.members ∙ members ∙ alike.members;
        has = λ number letter there. rw (commits.posted, letters, alike.letters) (found_more book.letters _ number letter there);
      };
      stands = turn.stands after (commits.members ∙ members);
    }
