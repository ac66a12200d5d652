-- What a step with a call that is judged leaves of a replay.
use Rattle.std.proofs.Common.{◌≡◌, ℕ, List, [], ◌∷◌, ◌++◌, length, Option, None, Some, refl, sym, ap, ◌∙◌, subst}
use Rattle.std.specs.Prelude.{IfSome}
use Rattle.std.specs.Option.{option_to_list}
use Rattle.std.proofs.lemmas.List.Elements.{All-contains}
use Rattle.zone_minutes.specs.declared.minute.Minute.{Minute}
use Rattle.cluster_sched.specs.Fates.{call}
use Rattle.cluster_sched.specs.Names.{IsNameIn}
use Rattle.cluster_sched.specs.declared.row.SchedRow.{SchedRow}
use Rattle.due_set.specs.Table.{Table}
use Rattle.launch_machine.specs.Clerk.{first_rows}
use Rattle.history.proofs.Keeping.{stands_next}
use Rattle.history.proofs.Standings.{waits_made}
use Rattle.history.proofs.Turns.{legal_push}
use Rattle.history.specs.Book.{Row, Standing, after_row, standing_after, under}
use Rattle.history.specs.Legal.{IsLegal, IsMade, MayFollow, answered}
use Rattle.history.specs.declared.turn.CallRow.{CallRow}
use Rattle.history.specs.declared.turn.Cause.TheVariants.{Tick}
use Rattle.history.specs.declared.turn.Turn.{Turn}
use Rattle.history.specs.declared.turn.Turn.TheVariants.{Did}
use Rattle.launch_safety.proofs.Whole.{waiting_held}
use Rattle.launch_safety.specs.Fitting.{held_in}
use Rattle.report_text.proofs.BookLemmas.{named}
use Rattle.journal_line.specs.Told.{ToldAnswer, ToldCall, CallTurn, TurnLine}
use Rattle.journal_line.specs.declared.line.Count.TheVariants.{Number}
use Rattle.journal_text.specs.Line.{TellsStep, told_fate, told_made, told_row}
use Rattle.replica_core.specs.Replica.{ReplicaState}
use Rattle.replica_core.specs.declared.out.StepOut.{StepOut}
use Rattle.script_semantics.specs.Situation.{Situation}
use Rattle.script_text.specs.declared.command.FateWord.{FateWord}
use Rattle.world_law.proofs.Called.{alike_stands}
use Rattle.world_law.proofs.Steps.{step_may_call}
use Rattle.world_law.specs.Book.{BookState, HasRoom, MakesCall, MayTickFor, StandsBehind, standing_behind}
use Rattle.world_law.specs.Replicas.{StandsAt}
use Rattle.run_replay.proofs.JudgeLemmas.{did_turn, judged_did, step_calls}
use Rattle.run_replay.proofs.ToldLemmas.{call_told, fate_one}
use Rattle.run_replay.specs.Judged.{HasMadeStep, IsJudged, MayBeTold}
use Rattle.run_replay.specs.Replay.{IsReplayAt}
use Rattle.run_replay.specs.declared.replay.Replay.{Replay}

abbrev told_so : FateWord → Option ToldAnswer → ToldCall
told_so fate answer = record { fate = fate; answer = answer }

-- ---- a book of as many replicas

stands_in : (table : Table) (rows : List Row) (book other : BookState) (replica : ReplicaState) → other.members ≡ book.members → StandsAt table rows book replica → StandsAt table rows other replica
stands_in table rows book other replica same at = record {
  identity = rw same at.identity;
  member = rw same at.member;
  runs = rw same at.runs;
  state = rw same at.state;
  of_table = at.of_table;
}

made_in : (table : Table) (rows : List Row) (book other : BookState) (row : SchedRow) (made : CallRow) → other.members ≡ book.members → IsMade (standing_behind table rows other).held (row ∷ []) (Some made)
    → IsMade (standing_behind table rows book).held (row ∷ []) (Some made)
made_in table rows book other row made same is = subst (λ members. IsMade (standing_after members (first_rows table) rows).held (row ∷ []) (Some made)) same is

-- ---- the answer of a call is a launch of the table

answer_named : (table : Table) (rows : List Row) (book : BookState) (who : ℕ) (now : Minute) (made : CallRow) (row : Row) (answer : Option SchedRow) → IsLegal book.members table (rows ++ row ∷ [])
    → ((found : SchedRow) → (standing_after book.members (first_rows table) (rows ++ row ∷ [])).waits who ≡ Some found → IsNameIn table found.name) → row.turn ≡ Did who (Tick now) (Some made) → made.answer ≡ answer
    → IfSome answer (λ (found : SchedRow). IsNameIn table found.name)
answer_named table rows book who now made row None legal waits turn is = tt
answer_named table rows book who now made row (Some found) legal waits turn is =
    waits found (ap (λ (after : Standing). after.waits who) (stands_next book.members (first_rows table) rows row)
    ∙ ap (λ (turn : Turn). (after_row book.members (standing_behind table rows book) turn row.event row.letters).waits who) turn
    ∙ waits_made book.members (standing_behind table rows book) who (Tick now) made row.event row.letters ∙ is)

-- what may come next where a line tells a call
pub call_may : (table : Table) (rows : List Row) (old : Replay) (who : ℕ) (now : Minute) (call : ToldCall) (row : Row) → MayBeTold table rows old.book (TurnLine (Number (length old.book.turns)) (Number who) (CallTurn now call)) row
    → (made : CallRow) × (call ≡ told_made table made) × MayFollow old.book.members table (standing_behind table rows old.book) (Did who (Tick now) (Some made)) row
call_may table rows old who now call row told =
    let found = call_told table (length rows) (length old.book.turns) who now call row.turn told.tells in
    (found.0, found.1, subst (λ turn. MayFollow old.book.members table (standing_behind table rows old.book) turn row) found.2 told.may)

module _ (table : Table) (rows : List Row) (old middle : Replay) (situation : Situation) (who : ℕ) (now : Minute) (out : StepOut) (is : IsReplayAt table rows old situation) (stepped : HasMadeStep table rows who (Tick now) old middle out) where
  abbrev held : List SchedRow
  held = (standing_behind table rows old.book).held

  pub rests : middle.book.pending ≡ None
  rests = stepped.book.pending ∙ is.rest

  pub behind : StandsBehind table rows middle.book
  behind = alike_stands table rows old.book middle.book stepped.book is.behind

  pub may_tick : (row : SchedRow) → out.call ≡ Some row → MayTickFor table middle.book row
  may_tick row calls =
      step_may_call table rows middle.book now stepped.input stepped.before stepped.after out row behind
      (stands_in table rows old.book middle.book stepped.before stepped.book.members stepped.stands) stepped.told stepped.inside stepped.steps calls stepped.room

  -- ---- the lines that tell it

  -- the call of a turn that a line tells is that of the step
  made_told : (call : ToldCall) (row : Row) → MayBeTold table rows old.book (TurnLine (Number (length old.book.turns)) (Number who) (CallTurn now call)) row
      → (made : CallRow) × (call ≡ told_made table made) × IsMade held (option_to_list out.call) (Some made)
  made_told call row told =
      let (made, same, may) = call_may table rows old who now call row told in
      (made, same, subst (λ calls. IsMade held calls (Some made)) (step_calls table rows old middle situation who (Tick now) out row.event is stepped may.0) may.1.call)

  -- no line tells a call of a step that makes none
  pub calls_none : (call : ToldCall) (row : Row) → out.call ≡ None → MayBeTold table rows old.book (TurnLine (Number (length old.book.turns)) (Number who) (CallTurn now call)) row → ⊥
  calls_none call row none told =
      let found = made_told call row told in
      let wrong : Some found.0 ≡ None = subst (λ asked. IsMade held (option_to_list asked) (Some found.0)) none found.2 in
      cc

  module _ (asked : SchedRow) (calls : out.call ≡ Some asked) (made : CallRow) (answers : IsMade (standing_behind table rows middle.book).held (asked ∷ []) (Some made)) where
    is_made : IsMade held (asked ∷ []) (Some made)
    is_made = made_in table rows old.book middle.book asked made stepped.book.members answers

    made_of : IsMade held (option_to_list out.call) (Some made)
    made_of = subst (λ asked. IsMade held (option_to_list asked) (Some made)) (sym calls) is_made

    -- the answer is a launch of the table
    pub names : IfSome made.answer (λ (found : SchedRow). IsNameIn table found.name)
    names =
        let did = did_turn table rows old middle situation who (Tick now) (Some made) out is stepped made_of in
        let legal = legal_push old.book.members table rows did.row is.behind.legal did.may in
        answer_named table rows old.book who now made did.row made.answer legal
        (λ found waits. All-contains (λ (held : SchedRow). IsNameIn table held.name) (held_in old.book.members table (rows ++ did.row ∷ [])) found
        (named table old.book.members (rows ++ did.row ∷ []) is.few is.sound legal) (waiting_held old.book.members table (rows ++ did.row ∷ []) who found is.few legal waits))
        did.is.turn_is refl

    -- a line that tells the fate of the call tells its answer
    pub answer_is : (call : ToldCall) (row : Row) → told_fate made.fate ≡ call.fate → MayBeTold table rows old.book (TurnLine (Number (length old.book.turns)) (Number who) (CallTurn now call)) row
        → told_row table made.answer ≡ call.answer
    answer_is words row fate told =
        let found = made_told words row told in
        let other : IsMade held (asked ∷ []) (Some found.0) = subst (λ calls. IsMade held (option_to_list calls) (Some found.0)) calls found.2 in
        let fates : made.fate ≡ found.0.fate = fate_one made.fate found.0.fate (fate ∙ ap (λ (call : ToldCall). call.fate) found.1) in
        let same : made.answer ≡ found.0.answer =
        is_made.2 ∙ ap (λ fate. answered (call fate asked (under asked.name held)).answer) fates ∙ sym other.2 in
        ap (told_row table) same ∙ sym (ap (λ (call : ToldCall). call.answer) found.1)

    -- a call that a line tells was judged
    pub judged_call : (call : ToldCall) (new : Replay) → told_fate made.fate ≡ call.fate → told_row table made.answer ≡ call.answer → MakesCall made middle.book new.book → StandsBehind table rows new.book
        → HasRoom (length out.letters) new.book → new.seats ≡ middle.seats → new.settings ≡ middle.settings → new.cuts ≡ middle.cuts → new.latest ≡ middle.latest
        → IsJudged table rows (TurnLine (Number (length old.book.turns)) (Number who) (CallTurn now call)) old new (record { turn = Did who (Tick now) (Some made); out = out; lost = None })
    judged_call call new fate answer makes stands room seats settings cuts latest =
        judged_did table rows old middle new situation who (Tick now) (Some made) (CallTurn now call) out is stepped made_of (tells call fate answer)
        stands (makes.members ∙ stepped.book.members) makes.pending room seats settings cuts latest
      where
        tells : (call : ToldCall) → told_fate made.fate ≡ call.fate → told_row table made.answer ≡ call.answer → TellsStep table (Tick now) (Some made) (CallTurn now call)
        tells call fate answer =
            ap (CallTurn now) (ap (λ fate. told_so fate call.answer) (sym fate) ∙ ap (told_so (told_fate made.fate)) (sym answer))
