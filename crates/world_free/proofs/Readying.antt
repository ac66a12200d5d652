-- A book that is ready for the turn of a step.
use Rattle.std.proofs.Common.{ℕ, List, Option, subst}
use Rattle.std.specs.Option.{option_to_list}
use Rattle.due_set.specs.Table.{Table}
use Rattle.history.specs.Book.{Row, Standing}
use Rattle.history.specs.Legal.{IsMade, MayFollow}
use Rattle.history.specs.declared.turn.CallRow.{CallRow}
use Rattle.replica_core.specs.Replica.{ReplicaState}
use Rattle.world_law.specs.Book.{BookState, StandsBehind, standing_behind}
use Rattle.world_law.specs.Rows.{HasRows, MayComeNext}
use Rattle.world_law.specs.declared.row.BookRow.{BookRow}
use Rattle.world_law.proofs.Settled.{come_here}
use Rattle.world_steps.specs.Turns.{IsNextStep}
use Rattle.world_steps.specs.declared.steps.Taken.{Taken}
use Rattle.world_steps.proofs.Joined.{turn_of_step}
use Rattle.world_free.specs.Ready.{row_of_step}

-- the row of the step may come next after the book's rows
pub step_comes_next : (table : Table) (behind : List Row) (book : BookState) (who : ℕ) (taken : Taken) (old new : ReplicaState) (made : Option CallRow) → IsNextStep table behind book who taken old new
    → IsMade (standing_behind table behind book).held (option_to_list taken.out.call) made → (rows : List BookRow) → HasRows table rows book → MayComeNext book.members table rows (row_of_step who taken made)
step_comes_next table behind book who taken old new made next call rows has =
    let turn = turn_of_step table behind book who taken old new made next call in
    record {
      behind = has.behind;
      legal = has.stands.legal;
      each = has.each;
      next = turn.row;
      is = turn.is;
      may = subst (λ (s : Standing). MayFollow book.members table s turn.row.turn turn.row) (come_here table behind has.behind book next.behind has.stands).stands turn.may;
    }

pub rows_still : (table : Table) (rows : List BookRow) (old new : BookState) → ((behind : List Row) → StandsBehind table behind old → StandsBehind table behind new) → HasRows table rows old → HasRows table rows new
rows_still table rows old new stands has = record { behind = has.behind; stands = stands has.behind has.stands; each = has.each }
