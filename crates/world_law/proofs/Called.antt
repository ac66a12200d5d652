-- A book whose ledger was called has the rows behind it that it had.
use Rattle.std.proofs.Common.{◌≡◌, ℕ, List, [], ◌∷◌, Some, None, Result, Ok, Err, IfOk, OnErr, refl, ap, ◌∙◌, sym}
use Rattle.cron_io.specs.declared.out_of_memory.OutOfMemory.{OutOfMemory}
use Rattle.cluster_sched.specs.Fates.{call}
use Rattle.cluster_sched.specs.declared.fate.Fate.{Fate}
use Rattle.cluster_sched.specs.declared.row.SchedRow.{SchedRow}
use Rattle.due_set.specs.Table.{Table}
use Rattle.history.specs.Book.{Row, held_after, late_after, under}
use Rattle.history.specs.Legal.{IsMade, answered}
use Rattle.history.specs.declared.turn.CallRow.{CallRow}
use Rattle.history.specs.declared.turn.Cause.{Cause}
use Rattle.history.specs.declared.turn.Turn.{Turn}
use Rattle.history.specs.declared.turn.Turn.TheVariants.{Did, Stopped, Restarted, Arrived}
use Rattle.world_law.specs.Book.{BookState, IsSameBook, MakesCall, StandsBehind, call_of, standing_behind}

-- at rest the ledger holds what the rows hold
pub held_at_rest : (table : Table) (rows : List Row) (book : BookState) → book.pending ≡ None → StandsBehind table rows book
    → book.ledger.held ≡ (standing_behind table rows book).held
held_at_rest table rows book rest behind = behind.held ∙ ap (λ call. held_after call (standing_behind table rows book).held) rest

pub late_at_rest : (table : Table) (rows : List Row) (book : BookState) → book.pending ≡ None → StandsBehind table rows book
    → book.ledger.late ≡ (standing_behind table rows book).late
late_at_rest table rows book rest behind =
    behind.late ∙ ap (λ call. late_after call (standing_behind table rows book).held (standing_behind table rows book).late) rest

call_stands : (table : Table) (rows : List Row) (made : CallRow) (old new : BookState) → old.pending ≡ None → MakesCall made old new → StandsBehind table rows old
    → StandsBehind table rows new
call_stands table rows made old new rest makes behind = record {
  legal = rw makes.members behind.legal;
  turns = makes.turns ∙ behind.turns;
  letters = rw (makes.members, makes.letters) behind.letters;
  posting = rw makes.letters behind.posting;
  held = rw (makes.members, makes.pending) (makes.ledger.held ∙ ap (held_after (Some made)) (held_at_rest table rows old rest behind));
  late =
      rw (makes.members, makes.pending) (makes.ledger.late ∙ ap (λ held. late_after (Some made) held old.ledger.late) (held_at_rest table rows old rest behind)
      ∙ ap (late_after (Some made) (standing_behind table rows old).held) (late_at_rest table rows old rest behind));
  arrived = rw makes.members (makes.arrived ∙ behind.arrived);
}

pub alike_stands : (table : Table) (rows : List Row) (old new : BookState) → IsSameBook new old → StandsBehind table rows old → StandsBehind table rows new
alike_stands table rows old new alike behind = record {
  legal = rw alike.members behind.legal;
  turns = alike.turns ∙ behind.turns;
  letters = rw (alike.members, alike.letters) behind.letters;
  posting = rw alike.letters behind.posting;
  held = rw (alike.members, alike.pending) (alike.ledger.held ∙ behind.held);
  late = rw (alike.members, alike.pending) (alike.ledger.late ∙ behind.late);
  arrived = rw alike.members (alike.arrived ∙ behind.arrived);
}

-- whether memory was wanting or not
pub called_stands : (table : Table) (result : Result CallRow OutOfMemory) (old new : BookState) → old.pending ≡ None → IfOk result (λ made. MakesCall made old new)
    → OnErr result (IsSameBook new old) → (rows : List Row) → StandsBehind table rows old → StandsBehind table rows new
called_stands table (Ok made) old new rest makes err rows behind = call_stands table rows made old new rest makes behind
called_stands table (Err fault) old new rest makes err rows behind = alike_stands table rows old new err behind

-- the call is the one that the step asks for, with the answer that its turn has
pub call_is_made : (table : Table) (result : Result CallRow OutOfMemory) (row : SchedRow) (becomes : Fate) (old new : BookState) → old.pending ≡ None
    → IfOk result (λ made. (made.row ≡ row) × (made.fate ≡ becomes)) → IfOk result (λ made. MakesCall made old new)
    → IfOk result (λ made. (rows : List Row) → StandsBehind table rows old → IsMade (standing_behind table rows old).held (row ∷ []) (Some made))
call_is_made table (Ok made) row becomes old new rest is makes =
    λ rows behind. (
      refl,
      is.0,
      makes.ledger.answer ∙ ap (λ row. answered (call made.fate row (under row.name old.ledger.held)).answer) is.0
          ∙ ap (λ held. answered (call made.fate row (under row.name held)).answer) (held_at_rest table rows old rest behind),
    )
call_is_made table (Err fault) row becomes old new rest is makes = tt

-- a turn that carries a call is a step
pub carried : (turn : Turn) (made : CallRow) → Some made ≡ call_of turn → (who : ℕ) × (cause : Cause) × (turn ≡ Did who cause (Some made))
carried (Did who cause told) made is = (who, cause, ap (Did who cause) (sym is))
carried (Stopped who cause kept) made is = absurd cc
carried (Restarted who) made is = absurd cc
carried (Arrived number) made is = absurd cc
